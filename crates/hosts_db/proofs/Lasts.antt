-- What a crash may leave behind a call.
use Rattle.std.proofs.Common.{◌≡◌, true, sym, subst, ◌∙◌, inl, inr, Result, Ok, Err}
use Rattle.definitions.specs.Hosts.{Hosts, StoreCall, has_row, after_store}
use Rattle.hosts_db.specs.Calls.{Leaves, Makes}
use Rattle.hosts_db.specs.declared.error.StoreError.{StoreError}
use Rattle.hosts_db.specs.declared.error.StoreError.TheVariants.{Starved, StoreRefused}
use Rattle.hosts_db.specs.Outlives.{HasRowsOf, Outlives}
use Rattle.hosts_db.proofs.Stays.{store_keeps}

same_rows : {one other : Hosts} → one ≡ other → HasRowsOf one other
same_rows e name h = subst (λ hosts. has_row hosts name ≡ true) e h

pub call_keeps : (rows : Hosts) (call : StoreCall) → HasRowsOf rows (after_store rows call)
call_keeps rows call name h = store_keeps name rows call h

-- an Ok leaves the change alone
pub begun_outlives : {rows changed : Hosts} {may_leave : Hosts → Type 0} → rows ≡ changed → ((left : Hosts) → may_leave left → left ≡ changed) → Outlives rows may_leave
begun_outlives makes leaves left h = same_rows (makes ∙ sym (leaves left h))

pub call_outlives : {X : Type 0} (result : Result X StoreError) (before now : Hosts → Type 0) (rows after : Hosts) (call : StoreCall) → Makes result rows after (after_store rows call) → Leaves result before now (after_store rows call) → Outlives rows before → Outlives after now
call_outlives (Ok x) before now rows after call makes leaves old = begun_outlives makes leaves
call_outlives (Err Starved) before now rows after call makes leaves old = λ left h name e. old left (leaves left h) name (same_rows makes name e)
call_outlives (Err StoreRefused) before now rows after call makes leaves old = λ left h name e. elim (leaves left h) [
  | inl k ↦ old left k name (same_rows makes name e)
  | inr k ↦ same_rows (sym k) name (call_keeps rows call name (same_rows makes name e))
]
