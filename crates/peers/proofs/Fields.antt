-- The two fields of a line.
use Rattle.std.proofs.Common.{◌≡◌, ℕ, true, false, List, [], ◌∷◌, Option, Some, None, sym, ap, ◌∙◌, subst}
use Rattle.std.specs.Prelude.{is_some}
use Rattle.std.specs.Borrow.{Bor}
use Rattle.std.specs.Net.Grammar.{IsIpText}
use Rattle.byte_io.specs.Parts.{parts_at, parts_left}
use Rattle.byte_io.proofs.Cuts.{some_part, only_part}
use Rattle.peers.specs.File.{Peer, Spells, is_name}

heads : (a b : List ℕ) (xs ys : List (List ℕ)) → a ∷ xs ≡ b ∷ ys → a ≡ b
heads a b xs ys e = cc

tails : (a b : List ℕ) (xs ys : List (List ℕ)) → a ∷ xs ≡ b ∷ ys → xs ≡ ys
tails a b xs ys e = cc

-- no space is left where no part is
pub one_part : (text first : List ℕ) (more : Option (Bor (List ℕ))) → is_some more ≡ false → parts_at 32 text ≡ first ∷ parts_left 32 more → parts_at 32 text ≡ text ∷ []
one_part text first None none e = e ∙ ap (λ (part : List ℕ). part ∷ []) (only_part 32 text first e)
one_part text first (Some behind) none e = absurd cc

module _ (line name text : List ℕ) (cut : parts_at 32 line ≡ name ∷ parts_at 32 text) (peer : Peer) (s : Spells line peer) where
  name_is : peer.name ≡ name
  name_is = heads peer.name name (s.text ∷ []) (parts_at 32 text) (sym s.fields ∙ cut)

  text_parts : s.text ∷ [] ≡ parts_at 32 text
  text_parts = tails peer.name name (s.text ∷ []) (parts_at 32 text) (sym s.fields ∙ cut)

  pub no_more : (first : List ℕ) (more : Option (Bor (List ℕ))) → is_some more ≡ true → parts_at 32 text ≡ first ∷ parts_left 32 more → ⊥
  no_more first None some e = absurd cc
  no_more first (Some behind) some e = some_part 32 behind.now (sym (tails s.text first [] (parts_at 32 behind.now) (text_parts ∙ e)))

  pub is_named : is_name name ≡ false → ⊥
  is_named e = let both : true ≡ false = sym s.name ∙ ap is_name name_is ∙ e in cc

  pub addressed : IsIpText text peer.address
  addressed = let P : List ℕ → Type 0 = λ t. IsIpText t peer.address in subst P (only_part 32 text s.text (sym text_parts)) s.address
