-- One sending more, and one record more.
use Rattle.std.proofs.Common.{◌≡◌, ℕ, List, [], ◌∷◌, ◌++◌, Option, refl, sym, ◌∙◌, ap, subst}
use Rattle.std.specs.Prelude.{IsSome, Result, Ok, Err}
use Rattle.std.specs.Io.KnownBytes.{Appends}
use Rattle.std.proofs.lemmas.Grind.{flat_map-append}
use Rattle.std.proofs.lemmas.List.{append-nil}
use Rattle.std.proofs.KnownBytes.{Appends-trans}
use Rattle.daemon_core.specs.declared.event.Event.TheVariants.{Take}
use Rattle.daemon_core.specs.declared.outputs.Outputs.{Outputs}
use Rattle.daemon_core.specs.Outputs.{bytes_sent}
use Rattle.daemon_core.specs.DaemonState.{DaemonState, DaemonStep, SendStep, all_bytes_sent}
use Rattle.pipe_loops.specs.declared.fault.StreamFault.{StreamFault}
use Rattle.byte_io.specs.Written.{WroteFront}
use Rattle.pipe_loops.specs.Answered.{NothingDue, Sends, AnswersRecord, AnswersEach, in_order, SendsAll, SendsSome, SendsDue, AnswersBegun, AnswersNext}
use Rattle.pipe_loops.proofs.PipeLemmas.{bytes-append, bytes-more, Breaks-after}

-- ---- the calls that are due

Sends-append : (old mid new : DaemonState) (calls more : List Outputs) → Sends old calls mid → Sends mid more new → Sends old (calls ++ more) new
Sends-append old mid new [] more h k = subst (λ (x : DaemonState). Sends x more new) h k
Sends-append old mid new (c ∷ calls) more h k = (h.0, h.1, h.2, Sends-append h.0 mid new calls more h.3 k)

module _ (old new : DaemonState) (before : Option (List ℕ)) (out : Outputs) (step : SendStep old out new) where
  pub send-broken : (after : Option (List ℕ)) → IsSome out.sent → WroteFront before after (bytes_sent out.sent) → SendsSome StreamFault.WriteFault old new before after
  send-broken after some front = record {
    calls = out ∷ [];
    mid = new;
    sends = (new, step, some, refl);
    breaks = let P : List ℕ → Type 0 = λ b. WroteFront before after b in (refl, subst P (sym (append-nil (bytes_sent out.sent))) front);
  }

module _ (old mid new : DaemonState) (before between after : Option (List ℕ)) (calls : List Outputs) (sends : Sends old calls mid) (wrote : Appends before between (all_bytes_sent calls)) where
  pub due-more : (call : Outputs) × SendStep mid call new × IsSome call.sent × Appends between after (bytes_sent call.sent) → (more : List Outputs) × Sends old more new × Appends before after (all_bytes_sent more)
  due-more s = (
    calls ++ s.0 ∷ [],
    Sends-append old mid new calls (s.0 ∷ []) sends (new, s.1, s.2, refl),
    let P : List ℕ → Type 0 = λ b. Appends before after b in subst P (sym (bytes-more calls s.0)) (Appends-trans before between after (all_bytes_sent calls) _ wrote s.3),
  )

  pub due-done : (new ≡ mid) × NothingDue new × (after ≡ between) → SendsAll old new before after
  due-done s = record {
    calls = calls;
    sends = subst (λ (h : DaemonState). Sends old calls h) (sym s.0) sends;
    none_left = s.1;
    wrote = subst (λ (x : Option (List ℕ)). Appends before x (all_bytes_sent calls)) (sym s.2) wrote;
  }

  pub due-broken : (fault : StreamFault) → SendsSome fault mid new between after → SendsSome fault old new before after
  due-broken fault s = record {
    calls = calls ++ s.calls;
    mid = s.mid;
    sends = Sends-append old mid s.mid calls s.calls sends s.sends;
    breaks = Breaks-after fault s.mid new before between after calls s.calls wrote s.breaks;
  }

-- ---- a record and the calls behind it

pub reply-broken : (old mid : DaemonState) (before after : Option (List ℕ)) (reply : Outputs) → DaemonStep old (Take 0 0) reply mid → WroteFront before after (bytes_sent reply.sent) → AnswersBegun StreamFault.WriteFault old mid before after
reply-broken old mid before after reply step front = record {
  outs = reply ∷ [];
  mid = mid;
  answers = (mid, step, refl);
  begun = refl;
  breaks = let P : List ℕ → Type 0 = λ b. WroteFront before after b in (refl, subst P (sym (append-nil (bytes_sent reply.sent))) front);
}

module _ (old mid new : DaemonState) (before between after : Option (List ℕ)) (reply : Outputs) (step : DaemonStep old (Take 0 0) reply mid) where
  pub record-answered : (r : Result (Unit {0}) StreamFault) → Appends before between (bytes_sent reply.sent) → SendsDue r mid new between after → AnswersNext r old new before after
  record-answered (Ok done) wrote s = record {
    outs = reply ∷ s.calls;
    answers = record { reply = reply; mid = mid; takes = step; calls = s.calls; sends = s.sends; all = refl; none_left = s.none_left };
    wrote = Appends-trans before between after (bytes_sent reply.sent) (all_bytes_sent s.calls) wrote s.wrote;
  }
  record-answered (Err fault) wrote s = record {
    outs = reply ∷ s.calls;
    mid = s.mid;
    answers = (mid, step, s.sends);
    begun = refl;
    breaks = let P : List ℕ → Type 0 = λ b. Appends before between b in
        Breaks-after fault s.mid new before between after (reply ∷ []) s.calls (subst P (sym (append-nil (bytes_sent reply.sent))) wrote) s.breaks;
  }

-- ---- many records

pub Each-more : (old mid new : DaemonState) (answers : List (List Outputs)) (outs : List Outputs) → AnswersEach old answers mid → AnswersRecord mid outs new → AnswersEach old (answers ++ outs ∷ []) new
Each-more old mid new [] outs h r = (new, subst (λ (x : DaemonState). AnswersRecord x outs new) h r, refl)
Each-more old mid new (o ∷ answers) outs h r = (h.0, h.1, Each-more h.0 mid new answers outs h.2 r)

pub in_order-more : (answers : List (List Outputs)) (outs : List Outputs) → in_order (answers ++ outs ∷ []) ≡ in_order answers ++ outs
in_order-more answers outs = flat_map-append (λ (os : List Outputs). os) answers (outs ∷ []) ∙ ap (λ x. in_order answers ++ x) (append-nil outs)

pub each-bytes : (a b d : Option (List ℕ)) (answers : List (List Outputs)) (outs : List Outputs) → Appends a b (all_bytes_sent (in_order answers)) → Appends b d (all_bytes_sent outs) → Appends a d (all_bytes_sent (in_order (answers ++ outs ∷ [])))
each-bytes a b d answers outs p q =
    let P : List ℕ → Type 0 = λ x. Appends a d x in
    let e = ap (λ (os : List Outputs). all_bytes_sent os) (in_order-more answers outs) ∙ bytes-append (in_order answers) outs in
    subst P (sym e) (Appends-trans a b d _ _ p q)
