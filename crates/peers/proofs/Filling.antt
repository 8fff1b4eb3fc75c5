-- One line more.
use Rattle.std.proofs.Common.{◌≡◌, ◌+◌, ℕ, suc, Bool, true, false, List, [], ◌∷◌, ◌++◌, length, Option, Some, None, refl, sym, ap, ◌∙◌, subst, arith}
use Rattle.std.specs.Prelude.{cond, bytes_eq, Err}
use Rattle.std.specs.List.{find}
use Rattle.std.specs.Option.{option_map}
use Rattle.std.specs.declared.net.ip_addr.IpAddr.{IpAddr}
use Rattle.std.specs.Net.Grammar.{IsIpText}
use Rattle.std.proofs.NetLemmas.Theorems.{IsIpText_unique}
use Rattle.std.proofs.lemmas.List.{length-append}
use Rattle.std.proofs.lemmas.Slice.Eq.{bytes_eq-Decides}
use Rattle.peers.specs.declared.fault.PeersFault.{PeersFault}
use Rattle.peers.specs.declared.fault.PeersFault.TheVariants as fault
use Rattle.peers.specs.File.{Peer, Spells, AreSpelled, IsOnce, ArePeers, IsBadLine, lines_of, address_of}
use Rattle.peers.specs.Readings.{IsAdded, IsNone, Adds, Reads}

-- ---- a line is one peer's

Spells-one : (line : List ℕ) (a b : Peer) → Spells line a → Spells line b → a ≡ b
Spells-one line a b x y =
    let same : a.name ∷ x.text ∷ [] ≡ b.name ∷ y.text ∷ [] = sym x.fields ∙ y.fields in
    let name : a.name ≡ b.name = cc in
    let text : x.text ≡ y.text = cc in
    let P : List ℕ → Type 0 = λ t. IsIpText t a.address in
    let address : a.address ≡ b.address = IsIpText_unique y.text a.address b.address (subst P text x.address) y.address in
    ap (λ (n : List ℕ). record { name = n; address = a.address }) name ∙ ap (λ (i : IpAddr). record { name = b.name; address = i }) address

same-length : (lines : List (List ℕ)) (peers : List Peer) → AreSpelled lines peers → length lines ≡ length peers
same-length [] [] s = refl
same-length (line ∷ lines) (peer ∷ peers) s = ap (λ n. suc n) (same-length lines peers s.1)
same-length [] (peer ∷ peers) s = absurd s
same-length (line ∷ lines) [] s = absurd s

AreSpelled-more : (lines : List (List ℕ)) (line : List ℕ) (peers : List Peer) (peer : Peer) → AreSpelled lines peers → Spells line peer → AreSpelled (lines ++ line ∷ []) (peers ++ peer ∷ [])
AreSpelled-more [] line [] peer s one = (one, tt)
AreSpelled-more (first ∷ lines) line (p ∷ peers) peer s one = (s.0, AreSpelled-more lines line peers peer s.1 one)
AreSpelled-more [] line (p ∷ peers) peer s one = absurd s
AreSpelled-more (first ∷ lines) line [] peer s one = absurd s

AreSpelled-last : (lines : List (List ℕ)) (line : List ℕ) (peers others : List Peer) → AreSpelled lines peers → AreSpelled (lines ++ line ∷ []) others → (peer : Peer) × Spells line peer × (others ≡ peers ++ peer ∷ [])
AreSpelled-last [] line [] [] s t = absurd t
AreSpelled-last [] line [] (peer ∷ []) s t = (peer, t.0, refl)
AreSpelled-last [] line [] (peer ∷ p ∷ others) s t = absurd t.1
AreSpelled-last [] line (p ∷ peers) others s t = absurd s
AreSpelled-last (first ∷ lines) line [] others s t = absurd s
AreSpelled-last (first ∷ lines) line (p ∷ peers) [] s t = absurd t
AreSpelled-last (first ∷ lines) line (p ∷ peers) (q ∷ others) s t =
    let later = AreSpelled-last lines line peers others s.1 t.1 in
    (later.0, later.1, ap (λ (x : Peer). x ∷ others) (Spells-one first q p t.0 s.0) ∙ ap (λ (xs : List Peer). p ∷ xs) later.2)

-- ---- no name twice

abbrev where_of : Option Peer → Option IpAddr
where_of found = option_map (λ (p : Peer). p.address) found

none-parts : (b : Bool) (q : Peer) (rest : Option Peer) → where_of (cond b (Some q) rest) ≡ None → (b ≡ false) × (where_of rest ≡ None)
none-parts true q rest e = absurd cc
none-parts false q rest e = (refl, e)

none-from : (b : Bool) (q : Peer) (rest : Option Peer) → b ≡ false → where_of rest ≡ None → where_of (cond b (Some q) rest) ≡ None
none-from true q rest e none = absurd cc
none-from false q rest e none = none

module _ (a b : List ℕ) (e : bytes_eq a b ≡ false) where
  other_by : (t : Bool) → bytes_eq b a ≡ t → bytes_eq b a ≡ false
  other_by false h = h
  other_by true h = let both : false ≡ true = sym e ∙ (bytes_eq-Decides a b).1 (sym ((bytes_eq-Decides b a).0 h)) in absurd cc

other : (a b : List ℕ) → bytes_eq a b ≡ false → bytes_eq b a ≡ false
other a b e = other_by a b e (bytes_eq b a) refl

last-none : (name : List ℕ) (peers : List Peer) (p : Peer) → address_of name (peers ++ p ∷ []) ≡ None → (address_of name peers ≡ None) × (bytes_eq p.name name ≡ false)
last-none name [] p e = (refl, (none-parts (bytes_eq p.name name) p None e).0)
last-none name (q ∷ peers) p e =
    let parts = none-parts (bytes_eq q.name name) q (find (λ (x : Peer). bytes_eq x.name name) (peers ++ p ∷ [])) e in
    let later = last-none name peers p parts.1 in
    (none-from (bytes_eq q.name name) q (find (λ (x : Peer). bytes_eq x.name name) peers) parts.0 later.0, later.1)

none-last : (name : List ℕ) (peers : List Peer) (p : Peer) → address_of name peers ≡ None → bytes_eq p.name name ≡ false → address_of name (peers ++ p ∷ []) ≡ None
none-last name [] p e differs = none-from (bytes_eq p.name name) p None differs refl
none-last name (q ∷ peers) p e differs =
    let parts = none-parts (bytes_eq q.name name) q (find (λ (x : Peer). bytes_eq x.name name) peers) e in
    none-from (bytes_eq q.name name) q (find (λ (x : Peer). bytes_eq x.name name) (peers ++ p ∷ [])) parts.0 (none-last name peers p parts.1 differs)

IsOnce-more : (peers : List Peer) (p : Peer) → IsOnce peers → address_of p.name peers ≡ None → IsOnce (peers ++ p ∷ [])
IsOnce-more [] p once none = (refl, tt)
IsOnce-more (q ∷ peers) p once none =
    let parts = none-parts (bytes_eq q.name p.name) q (find (λ (x : Peer). bytes_eq x.name p.name) peers) none in
    (none-last q.name peers p once.0 (other q.name p.name parts.0), IsOnce-more peers p once.1 parts.1)

IsOnce-last : (peers : List Peer) (p : Peer) → IsOnce (peers ++ p ∷ []) → address_of p.name peers ≡ None
IsOnce-last [] p once = refl
IsOnce-last (q ∷ peers) p once =
    none-from (bytes_eq q.name p.name) q (find (λ (x : Peer). bytes_eq x.name p.name) peers) (other p.name q.name (last-none q.name peers p once.0).1) (IsOnce-last peers p once.1)

-- ---- the file

pub ArePeers-more : (lines : List (List ℕ)) (line : List ℕ) (old new : List Peer) → ArePeers lines old → IsAdded old line new → ArePeers (lines ++ line ∷ []) new
ArePeers-more lines line old new are a =
    let P : List Peer → Type 0 = λ ps. ArePeers (lines ++ line ∷ []) ps in
    let longer = length-append lines (line ∷ []) in
    let as_long = same-length lines old are.spelled in
    let room = a.room in
    subst P (sym a.more) (record { spelled = AreSpelled-more lines line old a.peer are.spelled a.spelled; once = IsOnce-more old a.peer are.once a.first; few = omega (arith, longer, as_long, room) })

pub IsBadLine-here : (all lines after : List (List ℕ)) (line : List ℕ) (old : List Peer) (number : ℕ) → all ≡ lines ++ line ∷ after → ArePeers lines old → IsNone old line number → IsBadLine all number
IsBadLine-here all lines after line old number e are none = record {
  before = lines;
  line = line;
  after = after;
  all = e;
  counted = none.counted ∙ ap (λ n. n + 1) (sym (same-length lines old are.spelled));
  peers = old;
  fine = are;
  bad = λ others those.
      let found = AreSpelled-last lines line old others are.spelled those.spelled in
      let P : List Peer → Type 0 = λ ps. IsOnce ps in
      let longer = length-append lines (line ∷ []) in
      let as_long = same-length lines old are.spelled in
      let few = those.few in
      none.none found.0 found.1 (IsOnce-last old found.0 (subst P found.2 those.once)) (omega (arith, longer, as_long, few));
}

-- what a line is refused for, the file is
pub refused : (bytes : List ℕ) (lines after : List (List ℕ)) (line : List ℕ) (old new : List Peer) (why : PeersFault) → lines_of bytes ≡ lines ++ line ∷ after → ArePeers lines old → Adds old line (Err why) new → Reads bytes (Err why)
refused bytes lines after line old new (fault.BadLine number) e are a = IsBadLine-here (lines_of bytes) lines after line old number e are a
refused bytes lines after line old new fault.Starved e are a = tt
