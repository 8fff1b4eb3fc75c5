-- What a quota refuses, and what leaves it as it was.
use Rattle.std.proofs.Common.{◌≡◌, ◌≢◌, ◌≤◌, ℕ, ◌+◌, Bool, true, false, cond, not, ◌&&◌, ◌||◌, ltb, List, [], ◌∷◌, ◌++◌, refl, sym, ap, ◌∙◌, ◌⊎◌, inl, inr, Option, Some, None, is_some, arith, ℤ, pos}
use Rattle.std.proofs.lemmas.Bool.{true≢false, ltb-false, and_parts, and_from, le-ltb, and_right, and_left}
use Rattle.std.proofs.lemmas.Map.Lookups.{exact_bytes}
use Rattle.std.proofs.lemmas.Option.{none-some, same_Some}
use Rattle.std.proofs.lemmas.Slice.Eq.{bytes_eq-Decides}
use Rattle.std.specs.declared.cmp.Ordering.{Ordering}
use Rattle.std.specs.declared.cmp.Ordering.TheVariants.{Less, Equal, Greater}
use Rattle.definitions.specs.Bytes.{Bytes, same_bytes, is_any, first_that, change_first, list_with, placed_list}
use Rattle.definitions.specs.Owners.{Owner, Remote, Process, Description, host_of, is_of_host}
use Rattle.definitions.specs.Settings.{Setting, setting_of, covers, mode_at}
use Rattle.definitions.specs.Conflict.{conflicts}
use Rattle.definitions.specs.Starts.{is_short, used, used_of}
use Rattle.definitions.specs.Hosts.{HostRow, Hosts, StoreCall, Begin, Monitor, Seen, Acked, Quota, Watched, Unwatched, row_cmp, has_row, full_quota, with_row, with_new_row, is_named, after_store}
use Rattle.definitions.specs.Quotas.{Quotas, quota_in, quotas_of, is_past, is_past_own, exceeds_of, exceeds, lacks_room, FullQuotaLaw}
use Rattle.definitions.specs.Waits.{Waiter}
use Rattle.definitions.specs.World.{Limits, is_ready}
use Rattle.definitions.proofs.Lists.{none_by}
use Rattle.definitions.proofs.RunCounts.{two_more, as_many_by, used_parted, used_beside}
use Rattle.definitions.proofs.SettingLaws.{newest_wins}
use Rattle.definitions.proofs.ReclaimLaws.{covered}
use Rattle.definitions.proofs.Firsts.{first_that-none}

-- ---- a full quota refuses nothing that finds room

pub of_its_host : (owner : Owner) (name : Bytes) → host_of owner ≡ Some name → is_of_host name owner ≡ true
of_its_host (Remote a) name e = (bytes_eq-Decides a.name name).1 (same_Some a.name name e)
of_its_host (Process p) name e = absurd (none-some name e)
of_its_host (Description d) name e = absurd (none-some name e)

-- whoever isn't the setting's owner keeps its modes
pub others_keep : (settings : List Setting) (s : Setting) (file : Bytes) (owner : Owner) (byte : ℕ) → s.owner ≢ owner → mode_at (settings ++ s ∷ []) file owner byte ≡ mode_at settings file owner byte
others_keep settings s file owner byte n = newest_wins settings s file owner byte ∙ go (covers s file owner byte) refl
  where
    go : (b : Bool) → covers s file owner byte ≡ b → cond b s.mode (mode_at settings file owner byte) ≡ mode_at settings file owner byte
    go false e = refl
    go true e = absurd (n (covered s file owner byte e).1)

-- a setting of a host's owner leaves the runs beside its host
beside_kept : (settings : List Setting) (s : Setting) (name : Bytes) → is_of_host name s.owner ≡ true → used_beside name (settings ++ s ∷ []) ≡ used_beside name settings
beside_kept settings s name e =
    as_many_by (λ owner. not (is_of_host name owner)) settings (settings ++ s ∷ [])
    (λ file owner byte h. others_keep settings s file owner byte (λ k. true≢false (sym h ∙ ap not (ap (is_of_host name) (sym k) ∙ e))))

pub full_quota_law : FullQuotaLaw
full_quota_law settings s name quota own full fits = go (is_short full_quota settings) refl fits
  where
    before : used_of name settings + used_beside name settings ≡ used settings
    before = used_parted name settings

    after : used_of name (settings ++ s ∷ []) + used_beside name (settings ++ s ∷ []) ≡ used (settings ++ s ∷ [])
    after = used_parted name (settings ++ s ∷ [])

    two : used (settings ++ s ∷ []) ≤ used settings + 2
    two = two_more settings s

    beside : used_beside name (settings ++ s ∷ []) ≡ used_beside name settings
    beside = beside_kept settings s name (of_its_host s.owner name own)

    second : (b : Bool) → (b || ltb (used settings) (used (settings ++ s ∷ []))) ≡ false → ltb (used settings) (used (settings ++ s ∷ [])) ≡ false
    second true e = absurd (true≢false e)
    second false e = e

    go : (b : Bool) → is_short full_quota settings ≡ b → (b && (is_some s.mode || ltb (used settings) (used (settings ++ s ∷ [])))) ≡ false → is_past settings s name quota ≡ false
    go true e f =
        let k : used (settings ++ s ∷ []) ≤ used settings = ltb-false (used settings) (used (settings ++ s ∷ [])) (second (is_some s.mode) f) in
        and_right (ltb quota (used_of name (settings ++ s ∷ []))) (ltb (used_of name settings) (used_of name (settings ++ s ∷ []))) (le-ltb (used_of name settings) (used_of name (settings ++ s ∷ [])) (omega (arith, k, before, after, beside)))
    go false e f =
        let k : used settings + 2 ≤ full_quota = ltb-false full_quota (used settings + 2) e in
        and_left (ltb quota (used_of name (settings ++ s ∷ []))) (ltb (used_of name settings) (used_of name (settings ++ s ∷ []))) (le-ltb quota (used_of name (settings ++ s ∷ [])) (omega (arith, k, after, two, full)))

-- ---- quotas that hold no less back

-- each host's quota is as it was, or it had none
abbrev pub AreKept : Quotas → Quotas → Type 0
AreKept before after = (name : Bytes) → (before name ≡ None) ⊎ (after name ≡ before name)

pub all_kept : (quotas : Quotas) → AreKept quotas quotas
all_kept quotas name = inr refl

pub exceeds_kept : (before after : Quotas) → AreKept before after → (settings : List Setting) (s : Setting) → exceeds before settings s ≡ true → exceeds after settings s ≡ true
exceeds_kept before after kept settings s = go (host_of s.owner)
  where
    go : (host : Option Bytes) → exceeds_of before settings s host ≡ true → exceeds_of after settings s host ≡ true
    go None e = e
    go (Some name) e = elim (kept name) [
      | inl n ↦ absurd (true≢false (sym e ∙ ap (is_past_own settings s name) n))
      | inr k ↦ ap (is_past_own settings s name) k ∙ e
    ]

or_off : (a b : Bool) → (b ≡ true → a ≡ true) → a ≡ false → b ≡ false
or_off a true f e = absurd (true≢false (sym (f refl) ∙ e))
or_off a false f e = refl

still_room : (a b c : Bool) → (b ≡ true → c ≡ true) → not (a || c) ≡ true → not (a || b) ≡ true
still_room true b c f e = e
still_room false true c f e = absurd (true≢false (sym e ∙ ap not (f refl)))
still_room false false c f e = refl

-- so whoever isn't ready doesn't become so
module _ (limits : Limits) (before after : Quotas) (kept : AreKept before after) (settings : List Setting) where
  was_ready : (x : Waiter) → is_ready limits after settings x ≡ true → is_ready limits before settings x ≡ true
  was_ready x h =
      let p = and_parts (not (conflicts settings x.request)) (not (lacks_room limits.runs after settings x.request)) h in
      and_from (not (conflicts settings x.request)) (not (lacks_room limits.runs before settings x.request)) p.0
      (still_room (is_short limits.runs settings) (exceeds before settings (setting_of x.request)) (exceeds after settings (setting_of x.request)) (exceeds_kept before after kept settings (setting_of x.request)) p.1)

  pub not_readied : (x : Waiter) → is_ready limits before settings x ≡ false → is_ready limits after settings x ≡ false
  not_readied x e = or_off (is_ready limits before settings x) (is_ready limits after settings x) (was_ready x) e

  pub none_readied : (waiters : List Waiter) → is_any (is_ready limits before settings) waiters ≡ false → is_any (is_ready limits after settings) waiters ≡ false
  none_readied waiters e = none_by (is_ready limits before settings) (is_ready limits after settings) waiters not_readied e

-- ---- each store call but that of a quota keeps them

abbrev pub is_quota : StoreCall → Bool
is_quota (Quota name runs) = true
is_quota _ = false

-- a row that is changed keeps its name and its quota
module _ (name other : Bytes) (change : HostRow → HostRow) (same_name : (r : HostRow) → (change r).name ≡ r.name) (same_quota : (r : HostRow) → (change r).quota ≡ r.quota) where
  abbrev changed : List HostRow → List HostRow
  changed rows = change_first (is_named name) change rows

  row_keeps : (rows : List HostRow) → quota_in (first_that (is_named other) (changed rows)) ≡ quota_in (first_that (is_named other) rows)
  row_keeps [] = refl
  row_keeps (r ∷ rows) = go (same_bytes r.name name) (row_keeps rows)
    where
      hit : (b : Bool) → quota_in (cond b (Some (change r)) (first_that (is_named other) rows)) ≡ quota_in (cond b (Some r) (first_that (is_named other) rows))
      hit true = ap Some (same_quota r)
      hit false = refl

      miss : (b : Bool) → quota_in (first_that (is_named other) (changed rows)) ≡ quota_in (first_that (is_named other) rows) → quota_in (cond b (Some r) (first_that (is_named other) (changed rows))) ≡ quota_in (cond b (Some r) (first_that (is_named other) rows))
      miss true more = refl
      miss false more = more

      go : (b : Bool) → quota_in (first_that (is_named other) (changed rows)) ≡ quota_in (first_that (is_named other) rows) → quota_in (first_that (is_named other) (cond b (change r ∷ rows) (r ∷ changed rows))) ≡ quota_in (first_that (is_named other) (r ∷ rows))
      go true more =
          ap (λ n. quota_in (cond (same_bytes n other) (Some (change r)) (first_that (is_named other) rows))) (same_name r)
          ∙ hit (same_bytes r.name other)
      go false more = miss (same_bytes r.name other) more

-- a row in its place leaves the rows of other names
put_beside : (new : HostRow) (other : Bytes) (rows : List HostRow) → same_bytes new.name other ≡ false → first_that (is_named other) (list_with row_cmp new rows) ≡ first_that (is_named other) rows
put_beside new other [] e = ap (λ b. cond b (Some new) None) e
put_beside new other (r ∷ rows) e = go (row_cmp new r) refl (put_beside new other rows e)
  where
    go : (o : Ordering) → row_cmp new r ≡ o → first_that (is_named other) (list_with row_cmp new rows) ≡ first_that (is_named other) rows → first_that (is_named other) (placed_list o new r rows (list_with row_cmp new rows)) ≡ first_that (is_named other) (r ∷ rows)
    go Less k more = ap (λ b. cond b (Some new) (first_that (is_named other) (r ∷ rows))) e
    go Equal k more =
        ap (λ b. cond b (Some new) (first_that (is_named other) rows)) e
        ∙ sym (ap (λ b. cond b (Some r) (first_that (is_named other) rows)) (ap (λ n. same_bytes n other) (sym (exact_bytes new.name r.name k)) ∙ e))
    go Greater k more = ap (λ rest. cond (same_bytes r.name other) (Some r) rest) more

new_keeps : (hosts : Hosts) (name : Bytes) (state : ℤ) (other : Bytes) → (quotas_of hosts other ≡ None) ⊎ (quota_in (first_that (is_named other) (with_new_row name state hosts)) ≡ quotas_of hosts other)
new_keeps hosts name state other = go (has_row hosts name) refl (same_bytes name other) refl
  where
    go : (b : Bool) → has_row hosts name ≡ b → (c : Bool) → same_bytes name other ≡ c → (quotas_of hosts other ≡ None) ⊎ (quota_in (first_that (is_named other) (cond b hosts.rows (with_row name hosts.own state hosts.rows))) ≡ quotas_of hosts other)
    go true e c f = inr refl
    go false e true f =
        let same : name ≡ other = (bytes_eq-Decides name other).0 f in
        inl (ap quota_in (first_that-none (is_named other) hosts.rows (ap (λ n. is_any (is_named n) hosts.rows) (sym same) ∙ e)))
    go false e false f = inr (ap quota_in (put_beside (record { name = name; epoch = hosts.own; seen = state; quota = full_quota }) other hosts.rows f))

pub store_keeps : (hosts : Hosts) (call : StoreCall) → is_quota call ≡ false → AreKept (quotas_of hosts) (quotas_of (after_store hosts call))
store_keeps hosts Begin e name = inr refl
store_keeps hosts (Monitor new state) e name = new_keeps hosts new state name
store_keeps hosts (Seen told seen) e name = inr (row_keeps told name (λ r. record r { seen = seen }) (λ r. refl) (λ r. refl) hosts.rows)
store_keeps hosts (Acked told epoch) e name = inr (row_keeps told name (λ r. record r { epoch = epoch }) (λ r. refl) (λ r. refl) hosts.rows)
store_keeps hosts (Quota set runs) e name = absurd (true≢false e)
store_keeps hosts (Watched new my bytes) e name = new_keeps hosts new (pos 0) name
store_keeps hosts (Unwatched told my) e name = inr refl
