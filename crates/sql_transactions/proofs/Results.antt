-- What follows from what a result was found to say.
use Rattle.std.proofs.Common.{◌≡◌, false, Result, Ok, Err, is_err, IfOk, IfErr, OnOk, OnErr}

pub if_then : {X E : Type 0} {P Q : X → Type 0} (r : Result X E) → IfOk r P → ((x : X) → P x → Q x) → IfOk r Q
if_then (Ok x) p f = f x p
if_then (Err e) p f = tt

pub on_if : {X E : Type 0} {P : X → Type 0} {Q : Type 0} (r : Result X E) → IfOk r P → ((x : X) → P x → Q) → OnOk r Q
on_if (Ok x) p f = f x p
on_if (Err e) p f = tt

pub on_both : {X E : Type 0} {P Q Z : Type 0} (r : Result X E) → OnOk r P → OnOk r Q → (P → Q → Z) → OnOk r Z
on_both (Ok x) p q f = f p q
on_both (Err e) p q f = tt

pub on_then : {X E : Type 0} {P Q : Type 0} (r : Result X E) → OnOk r P → (P → Q) → OnOk r Q
on_then (Ok x) p f = f p
on_then (Err e) p f = tt

pub gave : {X E : Type 0} {P : Type 0} (r : Result X E) → is_err r ≡ false → OnOk r P → P
gave (Ok x) e p = p
gave (Err x) e p = absurd cc

pub on_error : {X E : Type 0} {P : E → Type 0} {Q : Type 0} (r : Result X E) → IfErr r P → ((e : E) → P e → Q) → OnErr r Q
on_error (Ok x) p f = tt
on_error (Err e) p f = f e p

pub in_either : {X E : Type 0} {P : X → Type 0} {Q : E → Type 0} {Z : Type 0} (r : Result X E) → IfOk r P → IfErr r Q → ((x : X) → P x → Z) → ((e : E) → Q e → Z) → Z
in_either (Ok x) p q f g = f x p
in_either (Err e) p q f g = g e q
