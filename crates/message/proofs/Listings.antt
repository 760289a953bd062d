-- The attributes that are there, by the table of widths.
use Rattle.std.proofs.Common.{◌≡◌, ℕ, ◌<◌, ◌≤◌, Bool, true, false, ◌&&◌, eqb, ltb, List, [], ◌∷◌, Some, None, Option, sym, refl, ◌∙◌, subst, ⊎_elim, arith}
use Rattle.std.specs.List.{list_all}
use Rattle.std.proofs.lemmas.Bool.{eq-eqb, ne_eqb, ltb-true, lt-ltb, and_parts, and_from, cond-true, cond-false, cases_eq}
use Rattle.wire.proofs.Absurd.{impossible}
use Rattle.message.specs.declared.attributes.Attributes.{Attributes}
use Rattle.message.specs.Tables.{beside}
use Rattle.message.specs.Values.{Attribute, widths, value, put_before, present, others, last}

abbrev pub Table : Type 0
Table = List (ℕ × (ℕ × ℕ))

abbrev pub below : ℕ → Table → Bool
below n t = list_all (λ x. ltb x.0 n) t

abbrev pub falling : Table → Bool
falling [] = true
falling ((n, w) ∷ t) = ltb 0 n && (below n t && falling t)

pub widths_fall : falling widths ≡ true
widths_fall = refl

-- attributes with numbers of the table, in its order
pub data Sub : Table → List Attribute → Type 0 where
  nil : Sub [] []
  skip : {n : ℕ} {w : ℕ × ℕ} {t : Table} {l : List Attribute} → Sub t l → Sub ((n, w) ∷ t) l
  keep : {n : ℕ} {w : ℕ × ℕ} {v : List ℕ} {t : Table} {l : List Attribute} → Sub t l → Sub ((n, w) ∷ t) ((n, v) ∷ l)

pub none_of : (t : Table) → Sub t []
none_of [] = nil
none_of ((n, w) ∷ t) = skip (none_of t)

never : {A : Type 0} (a b : ℕ) → a < b → b ≤ a → A
never a b h k = let z : ⊥ = omega arith in absurd z

not_same : (m n : ℕ) → ltb m n ≡ true → eqb n m ≡ false
not_same m n h = ne_eqb n m (λ e. let l = ltb-true m n h in let z : ⊥ = omega arith in z)

not_same' : (m n : ℕ) → ltb m n ≡ true → eqb m n ≡ false
not_same' m n h = ne_eqb m n (λ e. let l = ltb-true m n h in let z : ⊥ = omega arith in z)

-- a number above the table is not among the attributes
absent : {t : Table} {l : List Attribute} (n : ℕ) → below n t ≡ true → Sub t l → beside n l ≡ None
absent n h nil = refl
absent n h (skip {n = m} {t = t} s) = absent n (and_parts (ltb m n) (below n t) h).1 s
absent n h (keep {n = m} {v = v} {t = t} s) =
    let p = and_parts (ltb m n) (below n t) h in
    cond-false _ _ _ (not_same m n p.0) ∙ absent n p.1 s

pub before_same : (n : ℕ) (o p : Option (List ℕ)) (k l : List Attribute) → o ≡ p → k ≡ l → put_before n o k ≡ put_before n p l
before_same n o p k l e f = λ i. put_before n (e i) (f i)

pub present_same : (t : Table) (l : List Attribute) (n : ℕ) (v : List ℕ) → below n t ≡ true → present t (λ m. beside m ((n, v) ∷ l)) ≡ present t (λ m. beside m l)
present_same [] l n v h = refl
present_same ((m, w) ∷ t) l n v h =
    let p = and_parts (ltb m n) (below n t) h in
    before_same m _ _ _ _ (cond-false _ _ _ (not_same' m n p.0)) (present_same t l n v p.1)

-- what is beside each number of the table makes the list again
pub listed_again : {t : Table} {l : List Attribute} → falling t ≡ true → Sub t l → present t (λ m. beside m l) ≡ l
listed_again h nil = refl
listed_again h (skip {n = n} {t = t} {l = l} s) =
    let p = and_parts (ltb 0 n) (below n t && falling t) h in
    let q = and_parts (below n t) (falling t) p.1 in
    before_same n (beside n l) None _ _ (absent n q.0 s) (listed_again q.1 s)
listed_again h (keep {n = n} {v = v} {t = t} {l = l} s) =
    let p = and_parts (ltb 0 n) (below n t && falling t) h in
    let q = and_parts (below n t) (falling t) p.1 in
    before_same n (beside n ((n, v) ∷ l)) (Some v) _ _ (cond-true _ _ _ (eq-eqb n n refl)) (present_same t l n v q.0 ∙ listed_again q.1 s)

-- one more, above those that are there
below_known : (t : Table) (n x : ℕ) (w : ℕ × ℕ) → below x t ≡ true → beside n t ≡ Some w → n < x
below_known [] n x w h e = impossible cc
below_known ((m, u) ∷ t) n x w h e =
    let p = and_parts (ltb m x) (below x t) h in
    ⊎_elim (λ i. let l = ltb-true m x p.0 in omega arith)
    (λ d. below_known t n x w p.1 (sym (cond-false _ _ _ (ne_eqb n m d)) ∙ e)) (cases_eq n m)

add_same : {t : Table} {l : List Attribute} (n : ℕ) (w : ℕ × ℕ) (v : List ℕ) → last l < n → Sub ((n, w) ∷ t) l → Sub ((n, w) ∷ t) ((n, v) ∷ l)
add_same n w v h (skip s) = keep s
add_same n w v h (keep s) = never n n h (omega arith)

add_under : {t : Table} {l : List Attribute} (n m : ℕ) (w : ℕ × ℕ) (v : List ℕ) → n < m → last l < n → (Sub t l → Sub t ((n, v) ∷ l)) → Sub ((m, w) ∷ t) l → Sub ((m, w) ∷ t) ((n, v) ∷ l)
add_under n m w v g h f (skip s) = skip (f s)
add_under n m w v g h f (keep s) = never m n h (omega arith)

pub add : (t : Table) (l : List Attribute) (n : ℕ) (u : ℕ × ℕ) (v : List ℕ) → falling t ≡ true → beside n t ≡ Some u → last l < n → Sub t l → Sub t ((n, v) ∷ l)
add [] l n u v f e h s = impossible cc
add ((m, w) ∷ t) l n u v f e h s =
    let p = and_parts (ltb 0 m) (below m t && falling t) f in
    let q = and_parts (below m t) (falling t) p.1 in
    ⊎_elim (λ i. subst (λ x. Sub ((x, w) ∷ t) ((n, v) ∷ l)) i (add_same n w v h (subst (λ x. Sub ((x, w) ∷ t) l) (sym i) s)))
    (λ d. let e' = sym (cond-false _ _ _ (ne_eqb n m d)) ∙ e in
    add_under n m w v (below_known t n m u q.0 e') h (add t l n u v q.1 e' h) s) (cases_eq n m)

-- the attributes that are there fall, and hold what is there
abbrev pub falls : List Attribute → Bool
falls [] = true
falls ((n, v) ∷ l) = ltb (last l) n && falls l

last_before : (n x : ℕ) (o : Option (List ℕ)) (l : List Attribute) → n < x → last l < x → last (put_before n o l) < x
last_before n x None l h k = k
last_before n x (Some v) l h k = h

last_below : (t : Table) (f : ℕ → Option (List ℕ)) (x : ℕ) → 0 < x → below x t ≡ true → last (present t f) < x
last_below [] f x h b = h
last_below ((n, w) ∷ t) f x h b =
    let p = and_parts (ltb n x) (below x t) b in
    last_before n x (f n) _ (ltb-true n x p.0) (last_below t f x h p.1)

falls_before : (n : ℕ) (o : Option (List ℕ)) (l : List Attribute) → last l < n → falls l ≡ true → falls (put_before n o l) ≡ true
falls_before n None l h k = k
falls_before n (Some v) l h k = and_from _ _ (lt-ltb (last l) n h) k

pub present_falls : (t : Table) (f : ℕ → Option (List ℕ)) → falling t ≡ true → falls (present t f) ≡ true
present_falls [] f h = refl
present_falls ((n, w) ∷ t) f h =
    let p = and_parts (ltb 0 n) (below n t && falling t) h in
    let q = and_parts (below n t) (falling t) p.1 in
    falls_before n (f n) _ (last_below t f n (ltb-true 0 n p.0) q.0) (present_falls t f q.1)

pub others_fall : (a : Attributes) → falls (others a) ≡ true
unfolding others
others_fall a = present_falls widths (λ n. value n a) widths_fall

beside_before : (k n : ℕ) (o : Option (List ℕ)) (l : List Attribute) → eqb k n ≡ false → beside k (put_before n o l) ≡ beside k l
beside_before k n None l h = refl
beside_before k n (Some v) l h = cond-false _ _ _ h

beside_none : (t : Table) (f : ℕ → Option (List ℕ)) (k : ℕ) → below k t ≡ true → beside k (present t f) ≡ None
beside_none [] f k h = refl
beside_none ((n, w) ∷ t) f k h =
    let p = and_parts (ltb n k) (below k t) h in
    beside_before k n (f n) _ (not_same n k p.0) ∙ beside_none t f k p.1

beside_here : (n : ℕ) (o : Option (List ℕ)) (l : List Attribute) → beside n l ≡ None → beside n (put_before n o l) ≡ o
beside_here n None l h = h
beside_here n (Some v) l h = cond-true _ _ _ (eq-eqb n n refl)

pub beside_present : (t : Table) (f : ℕ → Option (List ℕ)) (k : ℕ) (w : ℕ × ℕ) → falling t ≡ true → beside k t ≡ Some w → beside k (present t f) ≡ f k
beside_present [] f k w h e = impossible cc
beside_present ((n, u) ∷ t) f k w h e =
    let p = and_parts (ltb 0 n) (below n t && falling t) h in
    let q = and_parts (below n t) (falling t) p.1 in
    ⊎_elim (λ i. subst (λ x. beside x (present ((n, u) ∷ t) f) ≡ f x) (sym i) (beside_here n (f n) _ (beside_none t f n q.0)))
    (λ d. beside_before k n (f n) _ (ne_eqb k n d) ∙ beside_present t f k w q.1 (sym (cond-false _ _ _ (ne_eqb k n d)) ∙ e)) (cases_eq k n)
