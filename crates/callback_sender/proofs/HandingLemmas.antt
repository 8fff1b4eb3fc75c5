-- Turns of the sender, one behind another.
use Rattle.std.proofs.Common.{◌≡◌, ◌+◌, List, subst, sym}
use Rattle.book.specs.Notes.{Note}
use Rattle.callback_sender.specs.Calls.{Call}
use Rattle.callback_sender.proofs.CallLemmas.{Hands-none, Hands-more}
use Rattle.callback_sender.specs.Handing.{HandsOn}

pub HandsOn-none : (l : List Call) (t : List Note) → HandsOn l l t t
HandsOn-none l t = (0, Hands-none 0 l t)

pub HandsOn-kept : (l m : List Call) (t : List Note) → m ≡ l → HandsOn l m t t
HandsOn-kept l m t e = subst (λ (k : List Call). HandsOn l k t t) (sym e) (HandsOn-none l t)

pub HandsOn-more : (l m n : List Call) (t u v : List Note) → HandsOn l m t u → HandsOn m n u v → HandsOn l n t v
HandsOn-more l m n t u v p q = (p.0 + q.0, Hands-more p.0 q.0 l m n t u v p.1 q.1)
