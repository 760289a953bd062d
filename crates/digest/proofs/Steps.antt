-- The 64 operations by their number, and the rounds.
use Rattle.std.proofs.Common.{◌≡◌, ℕ, suc, ◌+◌, ◌-◌, ◌%◌, ◌<◌, ◌≤◌, true, eqb, ltb, List, take, drop, sym, refl, ap, ◌∙◌, arith}
use Rattle.std.proofs.lemmas.Bool.{agree_below, agree_below_at, eqb-true, ltb-true}
use Rattle.std.proofs.lemmas.List.{drop_more, get_or-map}
use Rattle.std.specs.Int.{rotate_left, w32}
use Rattle.digest.specs.Words.{plus, turned}
use Rattle.digest.specs.Rounds.{Rows, sine, word, round_1, round_2, round_3, round_4, operation, round}
use Rattle.digest.specs.Operations.{rows, index_of, shift_of, sine_of}
use Rattle.digest.specs.declared.state.State.{State}

pub shift_above : (i : ℕ) → i < 64 → 0 < shift_of i
unfolding shift_of rows round_1 round_2 round_3 round_4
shift_above i h = ltb-true 0 (shift_of i) (agree_below_at (λ k. ltb 0 (shift_of k)) (λ k. true) 64 i refl h)

pub shift_below : (i : ℕ) → i < 64 → shift_of i < 32
unfolding shift_of rows round_1 round_2 round_3 round_4
shift_below i h = ltb-true (shift_of i) 32 (agree_below_at (λ k. ltb (shift_of k) 32) (λ k. true) 64 i refl h)

pub index_below : (i : ℕ) → i < 64 → index_of i < 16
unfolding index_of rows round_1 round_2 round_3 round_4
index_below i h = ltb-true (index_of i) 16 (agree_below_at (λ k. ltb (index_of k) 16) (λ k. true) 64 i refl h)

-- what `rotate_left` gives is the RFC's turn
pub turns : (x s : ℕ) → 0 < s → s < 32 → rotate_left w32 x s ≡ turned x s
unfolding turned
turns x s l h =
    let e : s % 32 ≡ s = omega arith in
    let f : (32 - s) % 32 ≡ 32 - s = omega arith in
    rw (e, f)

-- the rest of a round, from operation i on
next : (fn : ℕ → ℕ → ℕ → ℕ) (m : List ℕ) (w : State) (i n : ℕ) → i < 64
    → round fn (take (suc n) (drop i rows)) m w
    ≡ round fn (take n (drop (i + 1) rows)) m (operation fn m (index_of i) (shift_of i) (sine_of i) w)
unfolding round index_of shift_of sine_of rows round_1 round_2 round_3 round_4
next fn m w i n h =
    ap (λ (z : Rows). round fn (take (suc n) z) m w) (drop_more rows i (0, 0, 0) h)
    ∙ rw (
      get_or-map {Y = ℕ} (λ row. row.0) rows i (0, 0, 0) 0 h,
      get_or-map {Y = ℕ} (λ row. row.1) rows i (0, 0, 0) 0 h,
      get_or-map {Y = ℕ} (λ row. sine row.2) rows i (0, 0, 0) 0 h,
    ) refl

-- one operation more
pub again : (fn : ℕ → ℕ → ℕ → ℕ) (m : List ℕ) (w z : State) (i end f k x s t r : ℕ) → i < end → i < 64
    → f ≡ fn w.b w.c w.d → k ≡ index_of i → x ≡ word m k → t ≡ sine_of i → s ≡ shift_of i → 0 < s → s < 32
    → r ≡ rotate_left w32 (plus (plus (plus w.a f) x) t) s → round fn (take (end - i) (drop i rows)) m w ≡ z
    → round fn (take (end - (i + 1)) (drop (i + 1) rows)) m (record { a = w.d; b = plus w.b r; c = w.b; d = w.c }) ≡ z
unfolding operation
again fn m w z i end f k x s t r le h ef ek ex et es low high er inv =
    let n = end - (i + 1) in
    let e : end - i ≡ suc n = omega arith in
    ap (λ v. round fn (take n (drop (i + 1) rows)) m (record { a = w.d; b = plus w.b v; c = w.b; d = w.c }))
    (er ∙ turns (plus (plus (plus w.a f) x) t) s low high ∙ simp (ef, ek, ex, et, es))
    ∙ sym (next fn m w i n h) ∙ ap (λ j. round fn (take j (drop i rows)) m w) (sym e) ∙ inv

-- none left
pub ends : (fn : ℕ → ℕ → ℕ → ℕ) (m : List ℕ) (w z : State) (i end : ℕ) → end ≤ i → round fn (take (end - i) (drop i rows)) m w ≡ z → w ≡ z
unfolding round
ends fn m w z i end h inv =
    let e : end - i ≡ 0 = omega arith in
    ap (λ j. round fn (take j (drop i rows)) m w) (sym e) ∙ inv

-- a rule for the word that an operation adds, tried at each of the sixteen operations from `first` on
pub picks : (first : ℕ) (p : ℕ → ℕ) → agree_below (λ j. eqb (p (first + j)) (index_of (first + j))) (λ j. true) 16 ≡ true
    → (i : ℕ) → first ≤ i → i < first + 16 → p i ≡ index_of i
picks first p e i l h =
    let b : i - first < 16 = omega arith in
    let s : first + (i - first) ≡ i = omega arith in
    rw (← s) (eqb-true (p (first + (i - first))) (index_of (first + (i - first)))
    (agree_below_at (λ j. eqb (p (first + j)) (index_of (first + j))) (λ j. true) 16 (i - first) e b))
