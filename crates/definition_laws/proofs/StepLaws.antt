-- What holds after every step: exclusion, nobody ready, and in grace nothing but honest reclaims.
use Rattle.std.proofs.Common.{◌≡◌, ℕ, Bool, true, false, cond, not, ◌&&◌, leb, List, [], ◌∷◌, ◌++◌, length, map, refl, sym, ap, subst, ◌∙◌, Option, Some, None}
use Rattle.std.proofs.lemmas.Bool.{and_parts, not-true}
use Rattle.definitions.specs.Bytes.{Bytes, is_any}
use Rattle.definitions.specs.Owners.{is_of_host, same_owner}
use Rattle.definitions.specs.Bytes.{same_bytes}
use Rattle.definitions.specs.Settings.{Mode, Setting, Request, mode_at, covers}
use Rattle.definitions.specs.Conflict.{conflicts}
use Rattle.definitions.specs.Quotas.{quotas_of, lacks_room}
use Rattle.definitions.specs.Phases.{Phase, Grace}
use Rattle.definitions.specs.Hosts.{Hosts, StoreCall, Begin, StoreAnswer, NotAsked, Yes, Refused, after_store}
use Rattle.definitions.specs.Nlm.{Locks, LockMsg}
use Rattle.definitions.specs.Outgoing.{Outgoing, next_due}
use Rattle.definitions.specs.Replies.{Call, Nlm, Ignored, Turned, Asks, AnswerReading}
use Rattle.definitions.specs.Waits.{Waiter}
use Rattle.definitions.specs.World.{World, Limits, is_ready, settled_world, settled_within, with_all_due, slots_free, opening_with, restart_callback, restarted_world, Settles, AtRest, Grants}
use Rattle.definitions.specs.Rulings.{Response, ruled_answer}
use Rattle.definitions.specs.Grants.{TableChange, TableStays, TableChanges, answer_rules}
use Rattle.definitions.specs.Lines.{line_answer}
use Rattle.definitions.specs.Answer.{ruling}
use Rattle.definitions.specs.Step.{Peer, KeptPair, State, Event, Take, Send, Answer, Silent, Local, GraceOver, Restart, Applied, Starved, Stepped, applied_step, starved_step, taken_step, look, sent_step, restart, settled_after, with_row_stored, store_call}
use Rattle.definitions.specs.Reclaims.{AreCompatible, AreWithin, IsHonest, IsUnder, is_at_most}
use Rattle.definitions.specs.Moves.{TableMove, Stays, DropsHost, DropsOwner, Unlocks, Sets, Empties, AreRanges, Moves, IsReclaim, IsReclaimOf, IsSound, ExclusionLaw, GraceLaw}
use Rattle.definitions.proofs.SettingLaws.{newest_wins, drop_host, drop_owner}
use Rattle.definitions.proofs.WorldLaws.{due_keeps, settle_law}
use Rattle.definitions.proofs.QuotaLaws.{AreKept, all_kept, none_readied, store_keeps}
use Rattle.definition_laws.proofs.RowAsks.{IsOfRow, asks_row}
use Rattle.definitions.proofs.ReclaimLaws.{exclusion_kept, exclusion_kept_by_unlock, exclusion_kept_by_drops, honest_stays_within, none_is_least}
use Rattle.definitions.proofs.MoveLaws.{by_cond, ranges_behind}
use Rattle.definition_laws.proofs.AnswerMoves.{restart_moves, call_moves, ruled_moves, answer_moves, told_moves, ResponseMoves, line_moves}

-- ---- a change of the table keeps exclusion

nothing_set : AreCompatible []
nothing_set file x y byte wanted differ e = refl

pub move_compatible : (R : Request → Type 0) (phase : Phase) (before behind : List Setting) → TableMove R phase before behind → AreCompatible before → AreCompatible behind
move_compatible R phase before behind Stays old = old
move_compatible R phase before behind (DropsHost name) old = (exclusion_kept_by_drops before old).0 name
move_compatible R phase before behind (DropsOwner file owner) old = (exclusion_kept_by_drops before old).1 file owner
move_compatible R phase before behind (Unlocks s e) old = exclusion_kept_by_unlock before s e old
move_compatible R phase before behind (Sets r order free mine) old = exclusion_kept before r order old free
move_compatible R phase before behind Empties old = nothing_set

-- ---- settle keeps it, and leaves nobody ready

ranges_left : (xs ys : List Waiter) → AreRanges (xs ++ ys) → AreRanges xs × AreRanges ys
ranges_left [] ys h = (tt, h)
ranges_left (x ∷ xs) ys h = let k = ranges_left xs ys h.1 in ((h.0, k.0), k.1)

settles_sound : (limits : Limits) {w v : World} → Settles limits w v → AreCompatible w.settings → AreRanges w.waiters → IsSound limits v
settles_sound limits (AtRest e) old ranges = record { compatible = old; ranges = ranges; at_rest = e }
settles_sound limits (Grants {w = w} {x = x} f more) old ranges =
    let parts = ranges_left f.before (x ∷ f.behind) (subst AreRanges f.there ranges) in
    let free = not-true (conflicts w.settings x.request) (and_parts (not (conflicts w.settings x.request)) (not (lacks_room limits.runs (quotas_of w.hosts) w.settings x.request)) f.ready).0 in
    settles_sound limits more (exclusion_kept w.settings x.request parts.1.0 old free) (ranges_behind f.before f.behind parts.0 parts.1.1)

pub settled_sound : (limits : Limits) (R : Request → Type 0) (w v : World) → Moves R w v → IsSound limits w → IsSound limits (settled_world limits v)
settled_sound limits R w v m s = settles_sound limits (settle_law limits v) (move_compatible R w.phase w.settings v.settings m.table s.compatible) (m.ranges s.ranges)

sound_same : (limits : Limits) (w v : World) → v.settings ≡ w.settings → v.waiters ≡ w.waiters → AreKept (quotas_of w.hosts) (quotas_of v.hosts) → IsSound limits w → IsSound limits v
sound_same limits w v e k q s = record {
  compatible = subst AreCompatible (sym e) s.compatible;
  ranges = subst AreRanges (sym k) s.ranges;
  at_rest =
      ap (λ (settings : List Setting). is_any (is_ready limits (quotas_of v.hosts) settings) v.waiters) e
      ∙ ap (is_any (is_ready limits (quotas_of v.hosts) w.settings)) k
      ∙ none_readied limits (quotas_of w.hosts) (quotas_of v.hosts) q w.settings w.waiters s.at_rest;
}

hosts_stay : (w v : World) → v.hosts ≡ w.hosts → AreKept (quotas_of w.hosts) (quotas_of v.hosts)
hosts_stay w v e = subst (λ (hosts : Hosts). AreKept (quotas_of w.hosts) (quotas_of hosts)) (sym e) (all_kept (quotas_of w.hosts))

abbrev Anything : Request → Type 0
Anything r = Unit {0}

module _ (limits : Limits) (s : State) (sound : IsSound limits s.world) where
  taken_sound : (peer : Peer) (asked : Bytes) (xid : ℕ) (call : Call) (store : StoreAnswer) (o : Option KeptPair) → IsSound limits (taken_step limits s peer asked xid call store o).state.world
  taken_sound peer asked xid call store (Some k) =
      let kept = due_keeps s.world k.callbacks in
      by_cond (λ (t : Stepped). IsSound limits t.state.world) (leb (length k.callbacks) (slots_free limits s.world)) _ _
      (λ _. sound_same limits s.world (with_all_due s.world k.callbacks) kept.settings kept.waiters (hosts_stay s.world (with_all_due s.world k.callbacks) kept.hosts) sound)
      (λ _. sound)
  taken_sound peer asked xid call store None =
      settled_sound limits Anything s.world (ruled_answer store (ruling limits s.world peer.local call)).world
      (ruled_moves Anything s.world store (ruling limits s.world peer.local call) (call_moves Anything limits s.world peer.local call (λ r h. tt)))
      sound

  sent_sound : (o : Option Outgoing) → IsSound limits (sent_step s o).state.world
  sent_sound None = sound
  sent_sound (Some c) = sound_same limits s.world _ refl refl (all_kept (quotas_of s.world.hosts)) sound

  changed_sound : (t : Response TableChange) → ResponseMoves Anything t.says s.world t.world → IsSound limits (settled_after limits t)
  changed_sound t m = go t.says m
    where
      go : (c : TableChange) → ResponseMoves Anything c s.world t.world → IsSound limits (elim c [ TableStays ↦ t.world | TableChanges ↦ settled_world limits t.world ])
      go TableStays k = sound_same limits s.world t.world k.0 k.1 k.2 sound
      go TableChanges k = settled_sound limits Anything s.world t.world k sound

  answer_sound : (reading : AnswerReading) (store : StoreAnswer) → IsSound limits (settled_after limits (ruled_answer store (answer_rules limits s.world reading)))
  answer_sound reading NotAsked = changed_sound (answer_rules limits s.world reading).refused (answer_moves Anything limits s.world reading).1
  answer_sound reading Yes = changed_sound (answer_rules limits s.world reading).agreed (answer_moves Anything limits s.world reading).0
  answer_sound reading Refused = changed_sound (answer_rules limits s.world reading).refused (answer_moves Anything limits s.world reading).1

  restarted_sound : (w : World) (hosts : Hosts) → IsSound limits (restarted_world w hosts)
  restarted_sound w hosts =
      let kept = due_keeps (opening_with w.own_name w.rules hosts) (map (restart_callback w.own_name hosts.own) hosts.rows) in
      sound_same limits (opening_with w.own_name w.rules hosts) (restarted_world w hosts) kept.settings kept.waiters (hosts_stay (opening_with w.own_name w.rules hosts) (restarted_world w hosts) kept.hosts) (record { compatible = nothing_set; ranges = tt; at_rest = refl })

  restart_sound : (store : StoreAnswer) → IsSound limits (restart s store).state.world
  restart_sound Yes = restarted_sound s.world (after_store s.world.hosts Begin)
  restart_sound NotAsked = sound
  restart_sound Refused = sound

  applied_sound : (event : Event) (store : StoreAnswer) → IsSound limits (applied_step limits s event store).state.world
  applied_sound (Take peer asked Ignored) store = sound
  applied_sound (Take peer asked (Turned xid refusal)) store = sound
  applied_sound (Take peer asked (Asks xid call)) store = taken_sound peer asked xid call store (look s peer asked)
  applied_sound Send store = sent_sound (next_due s.world.calls)
  applied_sound (Answer reading) store = answer_sound reading store
  applied_sound (Silent number) store = sound_same limits s.world _ refl refl (all_kept (quotas_of s.world.hosts)) sound
  applied_sound (Local l line) store = settled_sound limits Anything s.world (ruled_answer store (line_answer limits s.world l line)).world (line_moves Anything limits s.world l line store) sound
  applied_sound GraceOver store = sound_same limits s.world _ refl refl (all_kept (quotas_of s.world.hosts)) sound
  applied_sound Restart store = restart_sound store

  row_sound : (call : Call) (o : Option StoreCall) (store : StoreAnswer) → IsOfRow call o → IsSound limits (with_row_stored s call o store).world
  row_sound (Nlm version (Locks a)) (Some call) Yes h = sound_same limits s.world _ refl refl (store_keeps s.world.hosts call h) sound
  row_sound (Nlm version (LockMsg a)) (Some call) Yes h = sound_same limits s.world _ refl refl (store_keeps s.world.hosts call h) sound
  row_sound _ _ _ h = sound

  starved_sound : (event : Event) (store : StoreAnswer) → IsSound limits (starved_step limits s event store).state.world
  starved_sound (Take peer asked Ignored) store = sound
  starved_sound (Take peer asked (Turned xid refusal)) store = sound
  starved_sound (Take peer asked (Asks xid call)) store = row_sound call (store_call limits s (Take peer asked (Asks xid call))) store (asks_row limits s peer call (look s peer asked))
  starved_sound (Local l line) store = sound
  starved_sound _ store = sound

pub exclusion_law : ExclusionLaw
exclusion_law limits s event Applied store sound = applied_sound limits s sound event store
exclusion_law limits s event Starved store sound = starved_sound limits s sound event store

-- ---- in grace

at_most_cond : (b : Bool) (m n : Option Mode) → is_at_most m n ≡ true → is_at_most (cond b None m) n ≡ true
at_most_cond true m n h = none_is_least n
at_most_cond false m n h = h

unlocked_at_most : (b : Bool) (mode m n : Option Mode) → mode ≡ None → is_at_most m n ≡ true → is_at_most (cond b mode m) n ≡ true
unlocked_at_most true mode m n e h = ap (λ k. is_at_most k n) e ∙ none_is_least n
unlocked_at_most false mode m n e h = h

module _ (old : List Setting) (R : Request → Type 0) (honest : (r : Request) → R r → IsHonest old r) where
  move_within : (phase : Phase) (before behind : List Setting) → TableMove R phase before behind → phase ≡ Grace → AreWithin old before → AreWithin old behind
  move_within phase before behind Stays g h = h
  move_within phase before behind (DropsHost name) g h =
      λ file owner byte. ap (λ m. is_at_most m (mode_at old file owner byte)) (drop_host name before file owner byte) ∙ at_most_cond (is_of_host name owner) (mode_at before file owner byte) (mode_at old file owner byte) (h file owner byte)
  move_within phase before behind (DropsOwner on x) g h =
      λ file owner byte. ap (λ m. is_at_most m (mode_at old file owner byte)) (drop_owner on x before file owner byte)
      ∙ at_most_cond (same_bytes file on && same_owner owner x) (mode_at before file owner byte) (mode_at old file owner byte) (h file owner byte)
  move_within phase before behind (Unlocks s e) g h =
      λ file owner byte. ap (λ m. is_at_most m (mode_at old file owner byte)) (newest_wins before s file owner byte)
      ∙ unlocked_at_most (covers s file owner byte) s.mode (mode_at before file owner byte) (mode_at old file owner byte) e (h file owner byte)
  move_within phase before behind (Sets r order free mine) g h = honest_stays_within old before r h (honest r (mine g))
  move_within phase before behind Empties g h = λ file owner byte. none_is_least (mode_at old file owner byte)

  moved_under : (w v : World) → Moves R w v → w.phase ≡ Grace → IsUnder old w → IsUnder old v
  moved_under w v m g u = record { settings = move_within w.phase w.settings v.settings m.table g u.settings; waiters = m.nobody g u.waiters }

pub settled_nobody : (limits : Limits) (v : World) → v.waiters ≡ [] → settled_world limits v ≡ v
settled_nobody limits v e = ap (λ n. settled_within n limits v) (ap length e)

settled_under : (limits : Limits) (old : List Setting) (v : World) → IsUnder old v → IsUnder old (settled_world limits v)
settled_under limits old v u = subst (IsUnder old) (sym (settled_nobody limits v u.waiters)) u

under_same : (old : List Setting) (w v : World) → v.settings ≡ w.settings → v.waiters ≡ w.waiters → IsUnder old w → IsUnder old v
under_same old w v e k u = record { settings = subst (AreWithin old) (sym e) u.settings; waiters = k ∙ u.waiters }

module _ (limits : Limits) (old : List Setting) (s : State) (g : s.world.phase ≡ Grace) (under : IsUnder old s.world) where
  taken_under : (peer : Peer) (asked : Bytes) (xid : ℕ) (call : Call) (store : StoreAnswer) (o : Option KeptPair) → ((r : Request) → IsReclaimOf call r → IsHonest old r) → IsUnder old (taken_step limits s peer asked xid call store o).state.world
  taken_under peer asked xid call store (Some k) honest =
      let kept = due_keeps s.world k.callbacks in
      by_cond (λ (t : Stepped). IsUnder old t.state.world) (leb (length k.callbacks) (slots_free limits s.world)) _ _
      (λ _. under_same old s.world (with_all_due s.world k.callbacks) kept.settings kept.waiters under)
      (λ _. under)
  taken_under peer asked xid call store None honest =
      let moved = ruled_moves (IsReclaimOf call) s.world store (ruling limits s.world peer.local call) (call_moves (IsReclaimOf call) limits s.world peer.local call (λ r h. h)) in
      settled_under limits old (ruled_answer store (ruling limits s.world peer.local call)).world
      (moved_under old (IsReclaimOf call) honest s.world (ruled_answer store (ruling limits s.world peer.local call)).world moved g under)

  abbrev Nothing_reclaimed : Request → Type 0
  Nothing_reclaimed r = ⊥

  moved : (v : World) → Moves Nothing_reclaimed s.world v → IsUnder old v
  moved v m = moved_under old Nothing_reclaimed (λ r h. absurd h) s.world v m g under

  sent_under : (o : Option Outgoing) → IsUnder old (sent_step s o).state.world
  sent_under None = under
  sent_under (Some c) = under_same old s.world _ refl refl under

  changed_under : (t : Response TableChange) → ResponseMoves Nothing_reclaimed t.says s.world t.world → IsUnder old (settled_after limits t)
  changed_under t m = go t.says (moved t.world (told_moves Nothing_reclaimed t.says s.world t.world m))
    where
      go : (c : TableChange) → IsUnder old t.world → IsUnder old (elim c [ TableStays ↦ t.world | TableChanges ↦ settled_world limits t.world ])
      go TableStays u = u
      go TableChanges u = settled_under limits old t.world u

  answer_under : (reading : AnswerReading) (store : StoreAnswer) → IsUnder old (settled_after limits (ruled_answer store (answer_rules limits s.world reading)))
  answer_under reading NotAsked = changed_under (answer_rules limits s.world reading).refused (answer_moves Nothing_reclaimed limits s.world reading).1
  answer_under reading Yes = changed_under (answer_rules limits s.world reading).agreed (answer_moves Nothing_reclaimed limits s.world reading).0
  answer_under reading Refused = changed_under (answer_rules limits s.world reading).refused (answer_moves Nothing_reclaimed limits s.world reading).1

  restart_under : (store : StoreAnswer) → IsUnder old (restart s store).state.world
  restart_under Yes = moved (restarted_world s.world (after_store s.world.hosts Begin)) (restart_moves Nothing_reclaimed s.world s.world (after_store s.world.hosts Begin))
  restart_under NotAsked = under
  restart_under Refused = under

  applied_under : (event : Event) (store : StoreAnswer) → ((r : Request) → IsReclaim event r → IsHonest old r) → IsUnder old (applied_step limits s event store).state.world
  applied_under (Take peer asked Ignored) store honest = under
  applied_under (Take peer asked (Turned xid refusal)) store honest = under
  applied_under (Take peer asked (Asks xid call)) store honest = taken_under peer asked xid call store (look s peer asked) honest
  applied_under Send store honest = sent_under (next_due s.world.calls)
  applied_under (Answer reading) store honest = answer_under reading store
  applied_under (Silent number) store honest = under_same old s.world _ refl refl under
  applied_under (Local l line) store honest =
      settled_under limits old (ruled_answer store (line_answer limits s.world l line)).world (moved (ruled_answer store (line_answer limits s.world l line)).world (line_moves Nothing_reclaimed limits s.world l line store))
  applied_under GraceOver store honest = under_same old s.world _ refl refl under
  applied_under Restart store honest = restart_under store

  row_under : (call : Call) (o : Option StoreCall) (store : StoreAnswer) → IsUnder old (with_row_stored s call o store).world
  row_under (Nlm version (Locks a)) (Some call) Yes = under_same old s.world _ refl refl under
  row_under (Nlm version (LockMsg a)) (Some call) Yes = under_same old s.world _ refl refl under
  row_under _ _ _ = under

  starved_under : (event : Event) (store : StoreAnswer) → IsUnder old (starved_step limits s event store).state.world
  starved_under (Take peer asked Ignored) store = under
  starved_under (Take peer asked (Turned xid refusal)) store = under
  starved_under (Take peer asked (Asks xid call)) store = row_under call (store_call limits s (Take peer asked (Asks xid call))) store
  starved_under (Local l line) store = under
  starved_under _ store = under

pub grace_law : GraceLaw
grace_law limits old s event Applied store g under honest = applied_under limits old s g under event store honest
grace_law limits old s event Starved store g under honest = starved_under limits old s g under event store
