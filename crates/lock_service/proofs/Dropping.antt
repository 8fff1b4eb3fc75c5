-- A host is dropped, and those who watch it are told.
use Rattle.std.proofs.Common.{◌≡◌, ◌≤◌, ℤ, cond, List, length, map, refl, ap, ◌∙◌, Some, arith}
use Rattle.std.proofs.lemmas.Bool.{le-leb}
use Rattle.std.proofs.lemmas.List.{length-map}
use Rattle.definitions.specs.Bytes.{Bytes}
use Rattle.definitions.specs.Hosts.{StoreCall, Seen, watches_of, after_store}
use Rattle.definitions.specs.Outgoing.{Callback, is_grant_to}
use Rattle.definitions.specs.Owners.{is_of_host}
use Rattle.definitions.specs.Replies.{Outcome, Success, NoResult, SystemErr}
use Rattle.definitions.specs.Rulings.{Ruling, decided_ruling}
use Rattle.definitions.specs.Waits.{Waiter}
use Rattle.definitions.specs.World.{World, the_limits, slots_free, with_hosts, with_all_due, without_host_of}
use Rattle.definitions.specs.Answer.{Answered, gives, status_callback}
use Rattle.definitions.proofs.Lists.{length_without}
use Rattle.lock_service.specs.Dropping.{dropping_ruling, dropped_if_room}

module _ (w : World) (name : Bytes) (state : ℤ) where
  abbrev callbacks_of : List Callback
  callbacks_of = map (status_callback state) (watches_of w.hosts name)

  -- what the parts of a plan come to
  pub same : (call : StoreCall) (outcome : Outcome) (callbacks : List Callback) (gone : Bytes) (refused : Answered) → call ≡ Seen name state → outcome ≡ Success NoResult → callbacks ≡ callbacks_of → gone ≡ name → refused ≡ gives w SystemErr
      → ◌≡◌ {A = Ruling Answered} (record { asks = Some call; agreed = record { outcome = outcome; due = callbacks; world = with_all_due (without_host_of (with_hosts w (after_store w.hosts call)) gone) callbacks }; refused = refused }) (dropping_ruling w name state)
  same call outcome callbacks gone refused a b c d e = rw (a, b, c, d, e) refl

  pub with_room : length (watches_of w.hosts name) ≤ slots_free the_limits w → dropped_if_room w name state ≡ dropping_ruling w name state
  with_room room = ap (λ b. cond b (dropping_ruling w name state) (decided_ruling (gives w SystemErr))) (le-leb (length (watches_of w.hosts name)) (slots_free the_limits w) room)

  -- a drop takes no place
  pub fits : (call : StoreCall) (callbacks : List Callback) (gone : Bytes) → callbacks ≡ callbacks_of → length (watches_of w.hosts name) ≤ slots_free the_limits w → length callbacks ≤ slots_free the_limits (without_host_of (with_hosts w (after_store w.hosts call)) gone)
  fits call callbacks gone is room =
      let waiters = length_without (λ (x : Waiter). is_of_host gone x.request.owner) w.waiters in
      let calls = length_without (is_grant_to gone) w.calls in
      let count = ap length is ∙ length-map (watches_of w.hosts name) (status_callback state) in
      omega arith
