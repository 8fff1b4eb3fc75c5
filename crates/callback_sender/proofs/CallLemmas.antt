-- One call more is handed over.
use Rattle.std.proofs.Common.{◌≡◌, ℕ, ◌+◌, ◌≤◌, List, [], ◌∷◌, ◌++◌, sym, ◌∙◌, ap, subst, append_assoc, arith}
use Rattle.std.proofs.lemmas.List.{append-nil, length-append}
use Rattle.book.specs.Notes.{Note}
use Rattle.callback_sender.specs.Calls.{Call, AreSent, Hands}

sent-all : (ms ns : List Note) (xs ys : List Call) → AreSent ms xs → AreSent ns ys → AreSent (ms ++ ns) (xs ++ ys)
sent-all [] ns [] ys p q = q
sent-all [] ns (x ∷ xs) ys p q = absurd p
sent-all (m ∷ ms) ns [] ys p q = absurd p
sent-all (m ∷ ms) ns (x ∷ xs) ys p q = (p.0, sent-all ms ns xs ys p.1 q)

pub Hands-none : (most : ℕ) (l : List Call) (t : List Note) → Hands most l l t t
Hands-none most l t = record { calls = []; entries = []; sent = tt; handed = sym (append-nil l); noted = sym (append-nil t); few = omega arith }

-- nothing was sent
pub Hands-kept : (most : ℕ) (l : List Call) (t u : List Note) → u ≡ t → Hands most l l t u
Hands-kept most l t u e = subst (λ (v : List Note). Hands most l l t v) (sym e) (Hands-none most l t)

pub Hands-more : (a b : ℕ) (l m n : List Call) (t u v : List Note) → Hands a l m t u → Hands b m n u v → Hands (a + b) l n t v
Hands-more a b l m n t u v p q = record {
  calls = p.calls ++ q.calls;
  entries = p.entries ++ q.entries;
  sent = sent-all p.entries q.entries p.calls q.calls p.sent q.sent;
  handed = q.handed ∙ ap (λ (k : List Call). k ++ q.calls) p.handed ∙ append_assoc l p.calls q.calls;
  noted = q.noted ∙ ap (λ (k : List Note). k ++ q.entries) p.noted ∙ append_assoc t p.entries q.entries;
  few = let c = length-append p.calls q.calls in let f = p.few in let g = q.few in omega (arith, c, f, g);
}

pub Hands-most : (a b : ℕ) (l m : List Call) (t u : List Note) → a ≤ b → Hands a l m t u → Hands b l m t u
Hands-most a b l m t u le s =
    record { calls = s.calls; entries = s.entries; sent = s.sent; handed = s.handed; noted = s.noted; few = let p = s.few in omega (arith, le, p) }
