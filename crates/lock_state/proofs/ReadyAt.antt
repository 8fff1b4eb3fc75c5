-- Where somebody may be ready, through the changes.
use Rattle.std.proofs.Common.{◌≡◌, ◌≤◌, ℕ, Bool, true, false, not, ◌&&◌, ◌||◌, cond, List, [], ◌∷◌, ◌++◌, refl, sym, ap, ◌∙◌, subst, None, Result, Ok, Err, OnOk, OnErr}
use Rattle.std.proofs.lemmas.Bool.{or_parts, and_right}
use Rattle.definitions.specs.Bytes.{Bytes, same_bytes, is_any, list_without, without_first}
use Rattle.definitions.specs.Moves.{AreRanges}
use Rattle.definitions.specs.Owners.{Owner}
use Rattle.definitions.specs.Quotas.{Quotas, lacks_room}
use Rattle.definitions.specs.Conflict.{conflicts}
use Rattle.definitions.specs.Settings.{Setting, within, mode_at, without_owner_on}
use Rattle.definitions.specs.Starts.{is_short}
use Rattle.definitions.specs.Waits.{Waiter}
use Rattle.definitions.specs.World.{is_ready, the_limits}
use Rattle.definitions.proofs.Lists.{none_by, none_more, none_left}
use Rattle.definitions.proofs.QuotaLaws.{AreKept, not_readied, none_readied}
use Rattle.blocked_list.specs.declared.touched.Touched.{Touched}
use Rattle.blocked_list.specs.Touches.{Spans, touches, joined}
use Rattle.blocked_list.specs.Quotas.{is_limited}
use Rattle.blocked_list.specs.Ready.{is_ready_off, SettingFreesLaw, CloseFreesLaw}
use Rattle.lock_state.specs.declared.unsettled.Unsettled.{Unsettled}
use Rattle.lock_state.specs.declared.unsettled.Unsettled.TheVariants.{Nowhere, On, Anywhere}
use Rattle.lock_state.specs.ReadyAt.{IsReadyAt, with_bytes, after_change, after_wait}
use Rattle.lock_state.specs.Whole.{AreShown}
use Rattle.lock_state.proofs.Touching.{spans_itself, joined_first, joined_second, none_wider, own_bytes, high_none, beyond_all}

-- ---- where none passes a test

module _ {X : Type 0} (p : X → Bool) where
  none_without_first : (test : X → Bool) (xs : List X) → is_any p xs ≡ false → is_any p (without_first test xs) ≡ false
  none_without_first test [] e = refl
  none_without_first test (x ∷ xs) e = let n = or_parts (p x) (is_any p xs) e in go (test x) n.0 n.1 (none_without_first test xs n.1)
    where
      go : (b : Bool) → p x ≡ false → is_any p xs ≡ false → is_any p (without_first test xs) ≡ false → is_any p (cond b xs (x ∷ without_first test xs)) ≡ false
      go true h rest more = rest
      go false h rest more = ap (λ c. c || is_any p (without_first test xs)) h ∙ more

-- ---- nobody at all

pub no_off : (t : Touched) (quotas : Quotas) (settings : List Setting) (ws : List Waiter) → is_any (is_ready the_limits quotas settings) ws ≡ false → is_any (is_ready_off t quotas settings) ws ≡ false
no_off t quotas settings ws e =
    none_by (is_ready the_limits quotas settings) (is_ready_off t quotas settings) ws
    (λ x h. and_right (not (touches t x.request)) (is_ready the_limits quotas settings x) h) e

-- ---- changes

-- fewer wait
pub ready_without : (u : Unsettled) (quotas : Quotas) (settings : List Setting) (test : Waiter → Bool) (ws : List Waiter) → IsReadyAt u quotas settings ws → IsReadyAt u quotas settings (list_without test ws)
ready_without Nowhere quotas settings test ws e = none_left (is_ready the_limits quotas settings) test ws e
ready_without (On t) quotas settings test ws e = none_left (is_ready_off t quotas settings) test ws e
ready_without Anywhere quotas settings test ws e = tt

pub ready_without_first : (u : Unsettled) (quotas : Quotas) (settings : List Setting) (test : Waiter → Bool) (ws : List Waiter) → IsReadyAt u quotas settings ws → IsReadyAt u quotas settings (without_first test ws)
ready_without_first Nowhere quotas settings test ws e = none_without_first (is_ready the_limits quotas settings) test ws e
ready_without_first (On t) quotas settings test ws e = none_without_first (is_ready_off t quotas settings) test ws e
ready_without_first Anywhere quotas settings test ws e = tt

-- one more waits, who is kept out
kept_out : (quotas : Quotas) (settings : List Setting) (x : Waiter) → conflicts settings x.request ≡ true → is_ready the_limits quotas settings x ≡ false
kept_out quotas settings x e = ap (λ b. not b && not (lacks_room the_limits.runs quotas settings x.request)) e

ready_kept_out : (u : Unsettled) (quotas : Quotas) (settings : List Setting) (ws : List Waiter) (x : Waiter) → conflicts settings x.request ≡ true → IsReadyAt u quotas settings ws → IsReadyAt u quotas settings (ws ++ x ∷ [])
ready_kept_out Nowhere quotas settings ws x out e = none_more (is_ready the_limits quotas settings) ws x e (kept_out quotas settings x out)
ready_kept_out (On t) quotas settings ws x out e = none_more (is_ready_off t quotas settings) ws x e (and_right (not (touches t x.request)) (is_ready the_limits quotas settings x) (kept_out quotas settings x out))
ready_kept_out Anywhere quotas settings ws x out e = tt

-- or who may be ready
own_off : (t : Touched) (quotas : Quotas) (settings : List Setting) (x : Waiter) → Spans t x.request.file x.request.first x.request.last → x.request.first ≤ x.request.last → is_ready_off t quotas settings x ≡ false
own_off t quotas settings x h ordered = ap (λ b. not b && is_ready the_limits quotas settings x) (own_bytes t x.request h ordered)

ready_more : (u : Unsettled) (t : Touched) (quotas : Quotas) (settings : List Setting) (ws : List Waiter) (x : Waiter) → ((w : Touched) → Spans w t.file t.first t.last → Spans w x.request.file x.request.first x.request.last) → x.request.first ≤ x.request.last → IsReadyAt u quotas settings ws → IsReadyAt (with_bytes u t) quotas settings (ws ++ x ∷ [])
ready_more Nowhere t quotas settings ws x own ordered e =
    none_more (is_ready_off t quotas settings) ws x (no_off t quotas settings ws e) (own_off t quotas settings x (own t (spans_itself t)) ordered)
ready_more (On other) t quotas settings ws x own ordered e = go (same_bytes other.file t.file) refl
  where
    go : (b : Bool) → same_bytes other.file t.file ≡ b → IsReadyAt (cond b (On (joined other t)) Anywhere) quotas settings (ws ++ x ∷ [])
    go true h =
        none_more (is_ready_off (joined other t) quotas settings) ws x (none_wider other (joined other t) (joined_first other t) quotas settings ws e)
        (own_off (joined other t) quotas settings x (own (joined other t) (joined_second other t h)) ordered)
    go false h = tt
ready_more Anywhere t quotas settings ws x own ordered e = tt

pub ready_waiting : (u : Unsettled) (t : Touched) (out : Bool) (quotas : Quotas) (settings : List Setting) (ws : List Waiter) (x : Waiter) → ((w : Touched) → Spans w t.file t.first t.last → Spans w x.request.file x.request.first x.request.last) → out ≡ conflicts settings x.request → x.request.first ≤ x.request.last → IsReadyAt u quotas settings ws → IsReadyAt (after_wait u t out) quotas settings (ws ++ x ∷ [])
ready_waiting u t true quotas settings ws x own is ordered e = ready_kept_out u quotas settings ws x (sym is) e
ready_waiting u t false quotas settings ws x own is ordered e = ready_more u t quotas settings ws x own ordered e

-- the store was asked for what sets no quota
pub ready_stored : (u : Unsettled) (before after : Quotas) (settings : List Setting) (ws : List Waiter) → AreKept before after → IsReadyAt u before settings ws → IsReadyAt u after settings ws
ready_stored Nowhere before after settings ws kept e = none_readied the_limits before after kept settings ws e
ready_stored (On t) before after settings ws kept e = none_by (is_ready_off t before settings) (is_ready_off t after settings) ws off e
  where
    still : (a b c : Bool) → (b ≡ false → c ≡ false) → (a && b) ≡ false → (a && c) ≡ false
    still true b c f h = f h
    still false b c f h = refl

    off : (x : Waiter) → is_ready_off t before settings x ≡ false → is_ready_off t after settings x ≡ false
    off x h = still (not (touches t x.request)) (is_ready the_limits before settings x) (is_ready the_limits after settings x) (not_readied the_limits before after kept settings x) h
ready_stored Anywhere before after settings ws kept e = tt

-- the settings of these bytes change
pub ready_changed : (u : Unsettled) (t : Touched) (held : Bool) (quotas : Quotas) (before after : List Setting) (ws : List Waiter)
    → (held ≡ false → (w : Touched) → Spans w t.file t.first t.last → is_any (is_ready_off w quotas before) ws ≡ false → is_any (is_ready_off w quotas after) ws ≡ false)
    → IsReadyAt u quotas before ws → IsReadyAt (after_change u t held) quotas after ws
ready_changed u t true quotas before after ws law e = tt
ready_changed Nowhere t false quotas before after ws law e = law refl t (spans_itself t) (no_off t quotas before ws e)
ready_changed (On other) t false quotas before after ws law e = go (same_bytes other.file t.file) refl
  where
    go : (b : Bool) → same_bytes other.file t.file ≡ b → IsReadyAt (cond b (On (joined other t)) Anywhere) quotas after ws
    go true h = law refl (joined other t) (joined_second other t h) (none_wider other (joined other t) (joined_first other t) quotas before ws e)
    go false h = tt
ready_changed Anywhere t false quotas before after ws law e = tt

pub ready_set : {A E : Type 0} (r : Result A E) (law : SettingFreesLaw) (u : Unsettled) (t : Touched) (held : Bool) (quotas : Quotas) (settings left : List Setting) (s : Setting) (ws : List Waiter)
    → ((w : Touched) → Spans w t.file t.first t.last → Spans w s.file s.first s.last)
    → AreRanges ws → held ≡ (is_short 65536 settings || is_limited quotas s.owner) → OnOk r (left ≡ settings ++ s ∷ []) → OnErr r (left ≡ settings) → IsReadyAt u quotas settings ws → IsReadyAt (after_change u t held) quotas left ws
ready_set (Ok x) law u t held quotas settings left s ws own ranges is ok err e =
    rw ok (ready_changed u t held quotas settings (settings ++ s ∷ []) ws
    (λ h w spans off. let n = or_parts (is_short 65536 settings) (is_limited quotas s.owner) (sym is ∙ h) in law quotas settings s w ws (own w spans) ranges n.0 n.1 off) e)
ready_set (Err x) law u t held quotas settings left s ws own ranges is ok err e =
    rw err (ready_changed u t held quotas settings settings ws (λ h w spans off. off) e)

-- all bytes of a file
abbrev pub whole : Bytes → Touched
whole file = record { file = file; first = 0; last = 18446744073709551615 }

pub ready_closed : (law : CloseFreesLaw) (u : Unsettled) (held : Bool) (quotas : Quotas) (settings : List Setting) (file : Bytes) (owner : Owner) (ws : List Waiter)
    → AreRanges ws → AreShown settings → held ≡ (is_short 65536 settings || is_limited quotas owner) → IsReadyAt u quotas settings ws → IsReadyAt (after_change u (whole file) held) quotas (without_owner_on file owner settings) ws
ready_closed law u held quotas settings file owner ws ranges shown is e =
    ready_changed u (whole file) held quotas settings (without_owner_on file owner settings) ws
    (λ h w spans off. let n = or_parts (is_short 65536 settings) (is_limited quotas owner) (sym is ∙ h) in
    let nothing : (byte : ℕ) → within w.first w.last byte ≡ false → mode_at settings w.file owner byte ≡ None = λ byte out. high_none settings w.file owner byte shown (beyond_all w.first w.last byte spans.from spans.upto out) in
    subst (λ f. is_any (is_ready_off w quotas (without_owner_on f owner settings)) ws ≡ false) spans.file (law quotas settings w owner ws nothing ranges n.0 n.1 off)) e

-- the first that is ready is granted
pub ready_granted : (law : SettingFreesLaw) (u : Unsettled) (t : Touched) (held : Bool) (quotas : Quotas) (settings : List Setting) (s : Setting) (ws : List Waiter)
    → ((w : Touched) → Spans w t.file t.first t.last → Spans w s.file s.first s.last)
    → AreRanges ws → is_short 65536 settings ≡ false → held ≡ is_limited quotas s.owner → IsReadyAt u quotas settings ws
    → IsReadyAt (after_change u t held) quotas (settings ++ s ∷ []) (without_first (is_ready the_limits quotas settings) ws)
ready_granted law u t held quotas settings s ws own ranges enough is e =
    ready_without_first (after_change u t held) quotas (settings ++ s ∷ []) (is_ready the_limits quotas settings) ws
    (ready_changed u t held quotas settings (settings ++ s ∷ []) ws
    (λ h w spans off. law quotas settings s w ws (own w spans) ranges enough (sym is ∙ h) off) e)
