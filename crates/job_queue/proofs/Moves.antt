-- Each move keeps the rule of the channel.
use Rattle.std.proofs.Common.{◌≡◌, ◌≢◌, ◌⊎◌, ℕ, zero, suc, ◌+◌, ◌<◌, ◌≤◌, true, true≢false, ◌==◌, List, [], ◌∷◌, ◌++◌, length, map, set, sym, refl, ap, ◌∙◌, subst, ⊎_elim, inl, inr, arith, append_assoc, length-append}
use Rattle.std.proofs.lemmas.List.{length-set, map-append, append-nil}
use Rattle.std.proofs.lemmas.Bool.{ne_eqb, eq-eqb}
use mathlib.Core.Option.{some, some-ne-none, some-injective}
use lib.ListN.{get_elem?}
use Rattle.crossbeam_channel.specs.Fifo.{Pushes, Pops, Forks, Merges, Learns}
use Rattle.atomic_table.proofs.Lists.{at_set}
use Rattle.job_queue.specs.Task.{Task}
use Rattle.job_queue.specs.declared.passes.Hand.{Hand}
use Rattle.job_queue.specs.declared.passes.View.{View}
use Rattle.job_queue.specs.Passes.{Move, Left, pick, taken_of, taken_by, left_of, no_hand, hand_at, Settled, hand_view, spent_view, first_view, with_hand, with_put, with_taken, with_made, with_known, IsDone, FitsHand, FitsKeeper, Fits, Handed}

-- lists
cons_head : {A : Type 0} (a b : A) (xs ys : List A) → a ∷ xs ≡ b ∷ ys → a ≡ b
cons_head a b xs ys e = some-injective a b (ap (λ l. get_elem? l 0) e)

abbrev rest_of : {A : Type 0} → List A → List A
rest_of [] = []
rest_of (x ∷ xs) = xs

nil_cons : {A : Type 0} (a : A) (xs : List A) → a ∷ xs ≡ [] → ⊥
nil_cons a xs e = some-ne-none a (ap (λ l. get_elem? l 0) e)

cons_tail : {A : Type 0} (a b : A) (xs ys : List A) → a ∷ xs ≡ b ∷ ys → xs ≡ ys
cons_tail a b xs ys e = ap rest_of e

taken_of-append : (p : ℕ) (xs ys : List Move) → taken_of p (xs ++ ys) ≡ taken_of p xs ++ taken_of p ys
taken_of-append p [] ys = refl
taken_of-append p (x ∷ xs) ys = ap (λ l. pick (x.reader == p) x.job ++ l) (taken_of-append p xs ys) ∙ sym (append_assoc (pick (x.reader == p) x.job) (taken_of p xs) (taken_of p ys))

taken_by-append : (p : ℕ) (xs ys : List Move) → taken_by p (xs ++ ys) ≡ taken_by p xs ++ taken_by p ys
taken_by-append p [] ys = refl
taken_by-append p (x ∷ xs) ys = ap (λ l. pick (x.worker == p) x.job ++ l) (taken_by-append p xs ys) ∙ sym (append_assoc (pick (x.worker == p) x.job) (taken_by p xs) (taken_by p ys))

left_of-append : (p : ℕ) (xs ys : List Left) → left_of p (xs ++ ys) ≡ left_of p xs ++ left_of p ys
left_of-append p [] ys = refl
left_of-append p (x ∷ xs) ys = ap (λ l. pick (x.reader == p) x.job ++ l) (left_of-append p xs ys) ∙ sym (append_assoc (pick (x.reader == p) x.job) (left_of p xs) (left_of p ys))

within : {A : Type 0} (l : List A) (i : ℕ) (a : A) → get_elem? l i ≡ some a → i < length l
within [] i a e = absurd (some-ne-none a (sym e))
within (x ∷ xs) zero a e = omega arith
within (x ∷ xs) (suc i) a e = let h = within xs i a e in omega arith

at_end : {A : Type 0} (l : List A) (a b : A) (j : ℕ) → get_elem? (l ++ a ∷ []) j ≡ some b → (get_elem? l j ≡ some b) ⊎ ((a ≡ b) × (j ≡ length l))
at_end [] a b zero e = inr (some-injective a b e, refl)
at_end [] a b (suc j) e = absurd (some-ne-none b (sym e))
at_end (x ∷ xs) a b zero e = inl e
at_end (x ∷ xs) a b (suc j) e = ⊎_elim (λ t. inl t) (λ (t : (a ≡ b) × (j ≡ length xs)). inr (t.0, ap suc t.1)) (at_end xs a b j e)

-- what one pass did leaves the other hands as they were
module _ (moves moves' : List Move) (rest rest' : List Left) (views : List View) (p : ℕ) (v : View) (h : Hand) where
  advance : Fits moves rest views → get_elem? views p ≡ some v → v.works ≡ true → ((q : ℕ) → q ≢ p → hand_at q moves' rest' ≡ hand_at q moves rest) → h ≡ hand_at p moves' rest' → Fits moves' rest' (set views p (with_hand v h))
  advance fits at works same mine =
      let w : View = with_hand v h in
      let here : p < length views = within views p v at in
      let known : (q : ℕ) (u : View) → get_elem? views q ≡ some u → u.keeps ≡ true → (k : ℕ) (g : Hand) → get_elem? u.known k ≡ some g → (g ≡ hand_at (suc k) moves' rest') × IsDone (set views p w) (suc k) =
      λ q u e keeps k g there.
      let old = ((fits.0 q u e).1 keeps).4 k g there in
      let apart : suc k ≢ p = λ (i : suc k ≡ p). true≢false (sym works ∙ old.1 v (subst (λ n. get_elem? views n ≡ some v) (sym i) at)) in
      (old.0 ∙ sym (same (suc k) apart), λ y e'. ⊎_elim (λ (t : (suc k ≡ p) × (w ≡ y)). absurd (apart t.0)) (λ (t : (suc k ≢ p) × (get_elem? views (suc k) ≡ some y)). old.1 y t.1) (at_set views p (suc k) w y e')) in
      let F : ℕ → View → Type 0 = λ q u. FitsHand moves' rest' q u × FitsKeeper moves' rest' (set views p w) q u in
      let long : length views ≡ length (set views p w) = sym (length-set views p w) in (
        (λ q u e.
            ⊎_elim
            (λ (t : (q ≡ p) × (w ≡ u)). subst (λ (y : ℕ × View). F y.0 y.1) (λ i. (sym t.0 i, t.1 i))
            ((λ _. (((fits.0 p v at).0 works).0, mine)), λ keeps. let k = (fits.0 p v at).1 keeps in (k.0, k.1, k.2 ∙ long, subst (λ n. length v.known < n) long k.3, known p v at keeps)))
            (λ (t : (q ≢ p) × (get_elem? views q ≡ some u)).
            let f = fits.0 q u t.1 in
            ((λ on. ((f.0 on).0, (f.0 on).1 ∙ sym (same q t.0))), λ keeps. let k = f.1 keeps in (k.0, k.1, k.2 ∙ long, subst (λ n. length u.known < n) long k.3, known q u t.1 keeps)))
            (at_set views p q w u e)),
        λ q beyond. let b : length views ≤ q = subst (λ n. n ≤ q) (sym long) beyond in same q (λ i. omega arith) ∙ fits.1 q b,
      )

pub begins : Handed [] (first_view ∷ [])
begins = ([], [], refl, (one, λ p _. refl))
  where
    one : (p : ℕ) (v : View) → get_elem? (first_view ∷ []) p ≡ some v → FitsHand [] [] p v × FitsKeeper [] [] (first_view ∷ []) p v
    one zero v e = subst (λ (u : View). FitsHand [] [] 0 u × FitsKeeper [] [] (first_view ∷ []) 0 u) (some-injective _ _ e) ((λ _. (refl, refl)), λ _. (refl, refl, refl, omega arith, λ k h e'. absurd (some-ne-none h (sym e'))))
    one (suc p) v e = absurd (some-ne-none v (sym e))

pick_else : (p q : ℕ) (x : Task) → q ≢ p → pick (p == q) x ≡ []
pick_else p q x n = ap (λ b. pick b x) (ne_eqb p q (λ e. n (sym e)))

pick_here : (p : ℕ) (x : Task) → pick (p == p) x ≡ x ∷ []
pick_here p x = ap (λ b. pick b x) (eq-eqb p p refl)

pub puts : (n p : ℕ) (v : View) (x : Task) → v.works ≡ true → Pushes Handed n p v x (λ w. w ≡ with_put v x)
puts n p v x works items views room h at =
    let moves = h.0 in
    let rest = h.1 in
    let l : Left = record { reader = p; job = x } in
    let mine = ((h.3.0 p v at).0 works).1 in
    let put : (q : ℕ) → left_of q (rest ++ l ∷ []) ≡ left_of q rest ++ (pick (p == q) x ++ []) = λ q. left_of-append q rest (l ∷ []) in (
      with_put v x,
      (
        moves,
        rest ++ l ∷ [],
        ap (λ k. k ++ x ∷ []) h.2 ∙ sym (map-append (λ (k : Left). k.job) rest (l ∷ [])),
        advance moves moves rest (rest ++ l ∷ []) views p v (record { put = v.hand.put ++ x ∷ []; taken = v.hand.taken }) h.3 at works
            (λ q apart. ap (λ k. record { put = taken_of q moves ++ k; taken = taken_by q moves }) (put q ∙ ap (λ k. left_of q rest ++ (k ++ [])) (pick_else p q x apart) ∙ append-nil (left_of q rest)))
            (ap (λ (g : Hand). record { put = g.put ++ x ∷ []; taken = g.taken }) mine
            ∙ ap (λ k. record { put = k; taken = taken_by p moves }) (append_assoc (taken_of p moves) (left_of p rest) (x ∷ []) ∙ ap (λ k. taken_of p moves ++ k) (ap (λ k. left_of p rest ++ (k ++ [])) (sym (pick_here p x)) ∙ sym (put p)))),
      ),
      refl,
    )

takes_from : (p : ℕ) (v : View) (x : Task) (items : List Task) (views : List View) (moves : List Move) (rest : List Left) → v.works ≡ true → x ∷ items ≡ map (λ (l : Left). l.job) rest → Fits moves rest views → get_elem? views p ≡ some v → Handed items (set views p (with_taken v x))
takes_from p v x items views moves [] works is fits at = absurd (nil_cons x items is)
takes_from p v x items views moves (l ∷ rest) works is fits at =
    let m : Move = record { reader = l.reader; worker = p; job = l.job } in
    let head : x ≡ l.job = cons_head x l.job items (map (λ (k : Left). k.job) rest) is in
    let of : (q : ℕ) → taken_of q (moves ++ m ∷ []) ++ left_of q rest ≡ taken_of q moves ++ left_of q (l ∷ rest) =
    λ q. ap (λ k. k ++ left_of q rest) (taken_of-append q moves (m ∷ []) ∙ ap (λ k. taken_of q moves ++ k) (append-nil (pick (l.reader == q) l.job))) ∙ append_assoc (taken_of q moves) (pick (l.reader == q) l.job) (left_of q rest) in
    let by : (q : ℕ) → taken_by q (moves ++ m ∷ []) ≡ taken_by q moves ++ pick (p == q) l.job = λ q. taken_by-append q moves (m ∷ []) ∙ ap (λ k. taken_by q moves ++ k) (append-nil (pick (p == q) l.job)) in
    let mine = ((fits.0 p v at).0 works).1 in (
      moves ++ m ∷ [],
      rest,
      cons_tail x l.job items (map (λ (k : Left). k.job) rest) is,
      advance moves (moves ++ m ∷ []) (l ∷ rest) rest views p v (record { put = v.hand.put; taken = v.hand.taken ++ x ∷ [] }) fits at works
          (λ q apart. λ i. record { put = of q i; taken = (by q ∙ ap (λ k. taken_by q moves ++ k) (pick_else p q l.job apart) ∙ append-nil (taken_by q moves)) i })
          (λ i. record { put = (ap (λ (g : Hand). g.put) mine ∙ sym (of p)) i; taken = (ap (λ (g : Hand). g.taken ++ x ∷ []) mine ∙ ap (λ k. taken_by p moves ++ k) (ap (λ k. k ∷ []) head ∙ sym (pick_here p l.job)) ∙ sym (by p)) i }),
    )

pub takes : (p : ℕ) (v : View) → v.works ≡ true → Pops Handed p v (λ x w. w ≡ with_taken v x)
takes p v works x items views h at = (with_taken v x, takes_from p v x items views h.0 h.1 works h.2 h.3 at, refl)

pub forks : (p : ℕ) (v : View) → v.keeps ≡ true → Forks Handed p v (with_made v) (hand_view v.made no_hand)
forks p v keeps items views h at =
    let moves = h.0 in
    let rest = h.1 in
    let fits = h.3 in
    let me = (fits.0 p v at).1 keeps in
    let l : View = with_made v in
    let r : View = hand_view v.made no_hand in
    let vs : List View = set views p l in
    let long : length vs ≡ length views = length-set views p l in
    let all : List View = vs ++ r ∷ [] in
    let longer : length all ≡ length views + 1 = length-append vs (r ∷ []) ∙ ap (λ n. n + 1) long in
    let made : v.made ≡ length views = me.2 in
    let first : p ≡ 0 = me.0 in
    let few : length v.known < length views = me.3 in
    let known : (k : ℕ) (g : Hand) → get_elem? v.known k ≡ some g → (g ≡ hand_at (suc k) moves rest) × IsDone all (suc k) =
    λ k g there.
    let old = me.4 k g there in
    let short : k < length v.known = within v.known k g there in (
      old.0,
      λ y e. ⊎_elim
          (λ (e' : get_elem? vs (suc k) ≡ some y). ⊎_elim (λ (t : (suc k ≡ p) × (l ≡ y)). let i = t.0 in absurd (omega (arith, i, first))) (λ (t : (suc k ≢ p) × (get_elem? views (suc k) ≡ some y)). old.1 y t.1) (at_set views p (suc k) l y e'))
          (λ (t : (r ≡ y) × (suc k ≡ length vs)). let i = t.1 in absurd (omega (arith, i, long, few, short)))
          (at_end vs r y (suc k) e),
    ) in
    let F : ℕ → View → Type 0 = λ q u. FitsHand moves rest q u × FitsKeeper moves rest all q u in (
      moves,
      rest,
      h.2,
      (
        (λ q u e. ⊎_elim
            (λ (e' : get_elem? vs q ≡ some u). ⊎_elim
            (λ (t : (q ≡ p) × (l ≡ u)). subst (λ (y : ℕ × View). F y.0 y.1) (λ i. (sym t.0 i, t.1 i))
            ((fits.0 p v at).0, λ _. (first, me.1, ap (λ n. n + 1) made ∙ sym longer, omega (arith, longer, few), known)))
            (λ (t : (q ≢ p) × (get_elem? views q ≡ some u)). ((fits.0 q u t.1).0, λ on. absurd (t.0 (((fits.0 q u t.1).1 on).0 ∙ sym first))))
            (at_set views p q l u e'))
            (λ (t : (r ≡ u) × (q ≡ length vs)). subst (λ (y : ℕ × View). F y.0 y.1) (λ i. (sym t.1 i, t.0 i))
            ((λ _. (made ∙ sym long, sym (fits.1 (length vs) (omega (arith, long))))), λ on. absurd (true≢false (sym on))))
            (at_end vs r u q e)),
        λ q beyond. fits.1 q (omega (arith, beyond, longer)),
      ),
    )

pub merges : (p : ℕ) (v : View) (other : ℕ) (u : View) → v.keeps ≡ true → u.works ≡ true → u.name ≡ suc (length v.known) → Merges Handed p v other u (with_known v u.hand) spent_view
merges p v other u keeps works next items views h at two at' =
    let moves = h.0 in
    let rest = h.1 in
    let fits = h.3 in
    let me = (fits.0 p v at).1 keeps in
    let first : p ≡ 0 = me.0 in
    let both : View = with_known v u.hand in
    let vs : List View = set views p both in
    let ws : List View = set vs other spent_view in
    let was : get_elem? views other ≡ some u = ⊎_elim (λ (t : (other ≡ p) × (both ≡ u)). absurd (two t.0)) (λ (t : (other ≢ p) × (get_elem? views other ≡ some u)). t.1) (at_set views p other both u at') in
    let theirs = (fits.0 other u was).0 works in
    let place : other ≡ suc (length v.known) = sym theirs.0 ∙ next in
    let inside : other < length views = within views other u was in
    let long : length ws ≡ length views = length-set vs other spent_view ∙ length-set views p both in
    let done : (k : ℕ) → IsDone views (suc k) ⊎ (suc k ≡ other) → IsDone ws (suc k) =
    λ k old y e. ⊎_elim
    (λ (t : (suc k ≡ other) × (spent_view ≡ y)). ap (λ (x : View). x.works) (sym t.1))
    (λ (t : (suc k ≢ other) × (get_elem? vs (suc k) ≡ some y)). ⊎_elim
    (λ (s : (suc k ≡ p) × (both ≡ y)). let i = s.0 in absurd (omega (arith, i, first)))
    (λ (s : (suc k ≢ p) × (get_elem? views (suc k) ≡ some y)). ⊎_elim (λ (d : IsDone views (suc k)). d y s.1) (λ (i : suc k ≡ other). absurd (t.0 i)) old)
    (at_set views p (suc k) both y t.1))
    (at_set vs other (suc k) spent_view y e) in
    let known : (k : ℕ) (g : Hand) → get_elem? (v.known ++ u.hand ∷ []) k ≡ some g → (g ≡ hand_at (suc k) moves rest) × IsDone ws (suc k) =
    λ k g there. ⊎_elim
    (λ (e : get_elem? v.known k ≡ some g). let old = me.4 k g e in (old.0, done k (inl old.1)))
    (λ (t : (u.hand ≡ g) × (k ≡ length v.known)).
    let i : suc k ≡ other = ap suc t.1 ∙ sym place in
    (sym t.0 ∙ theirs.1 ∙ ap (λ n. hand_at n moves rest) (sym i), done k (inr i)))
    (at_end v.known u.hand g k there) in
    let F : ℕ → View → Type 0 = λ q y. FitsHand moves rest q y × FitsKeeper moves rest ws q y in
    let few : length (v.known ++ u.hand ∷ []) < length ws = omega (arith, long, length-append v.known (u.hand ∷ []), place, inside) in (
      moves,
      rest,
      h.2,
      (
        (λ q y e. ⊎_elim
            (λ (t : (q ≡ other) × (spent_view ≡ y)). subst (F q) t.1 ((λ on. absurd (true≢false (sym on))), λ on. absurd (true≢false (sym on))))
            (λ (t : (q ≢ other) × (get_elem? vs q ≡ some y)). ⊎_elim
            (λ (s : (q ≡ p) × (both ≡ y)). subst (λ (x : ℕ × View). F x.0 x.1) (λ i. (sym s.0 i, s.1 i)) ((fits.0 p v at).0, λ _. (first, me.1, me.2 ∙ sym long, few, known)))
            (λ (s : (q ≢ p) × (get_elem? views q ≡ some y)). ((fits.0 q y s.1).0, λ on. absurd (s.0 (((fits.0 q y s.1).1 on).0 ∙ sym first))))
            (at_set views p q both y t.1))
            (at_set vs other q spent_view y e)),
        λ q beyond. fits.1 q (omega (arith, beyond, long)),
      ),
    )

pub settles : (p : ℕ) (v : View) → v.keeps ≡ true → v.made ≡ suc (length v.known) → Learns Handed p v (λ items. Settled (v.hand ∷ v.known) items)
settles p v keeps all items views h at =
    let moves = h.0 in
    let rest = h.1 in
    let fits = h.3 in
    let me = (fits.0 p v at).1 keeps in
    let mine : v.hand ≡ hand_at 0 moves rest = ((fits.0 p v at).0 me.1).1 ∙ ap (λ n. hand_at n moves rest) me.0 in
    let made : v.made ≡ length views = me.2 in
    (moves, rest, h.2, hands moves rest v.hand v.known mine (λ k g e. (me.4 k g e).0), λ q beyond. fits.1 q (omega (arith, all, made, beyond)))
  where
    hands : (moves : List Move) (rest : List Left) (mine : Hand) (known : List Hand) → mine ≡ hand_at 0 moves rest → ((k : ℕ) (g : Hand) → get_elem? known k ≡ some g → g ≡ hand_at (suc k) moves rest) → (k : ℕ) (g : Hand) → get_elem? (mine ∷ known) k ≡ some g → g ≡ hand_at k moves rest
    hands moves rest mine known is others zero g e = sym (some-injective mine g e) ∙ is
    hands moves rest mine known is others (suc k) g e = others k g e
