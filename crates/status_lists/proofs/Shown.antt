-- What a page shows, by the lengths of its lists.
use Rattle.std.proofs.Common.{◌≡◌, ℕ, List, length, map, sym, ap, subst, ◌∙◌}
use Rattle.std.proofs.lemmas.List.{length-map}
use Rattle.event_counts.specs.Numbers.{Numbers as Counts}
use Rattle.status_pages.specs.declared.metrics.Numbers.{Numbers}
use Rattle.status_pages.specs.declared.page.Page.{Page}
use Rattle.status_lists.specs.Pages.{IsPageWith}

pub same_lengths : (page : Page) (n : Numbers) (a b c a' b' c' : ℕ) (counts : Counts) (version text : List ℕ) → a ≡ a' → b ≡ b' → c ≡ c' → IsPageWith page n a b c counts version text → IsPageWith page n a' b' c' counts version text
same_lengths page n a b c a' b' c' counts version text e f g h =
    subst (λ (x : ℕ). IsPageWith page n x b' c' counts version text) e
    (subst (λ (x : ℕ). IsPageWith page n a x c' counts version text) f
    (subst (λ (x : ℕ). IsPageWith page n a b x counts version text) g h))

-- what is seen of a list has its length
pub seen_length : {A B : Type 0} → (f : A → B) (xs : List A) (ys : List B) → map f xs ≡ ys → length xs ≡ length ys
seen_length f xs ys is = sym (length-map xs f) ∙ ap length is
