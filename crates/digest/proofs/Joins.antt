-- Blocks taken in one after another.
use Rattle.std.proofs.Common.{◌≡◌, ℕ, zero, suc, ◌+◌, ◌*◌, ◌/◌, ◌%◌, ◌≤◌, List, ◌++◌, length, take, drop, sym, refl, ap, ◌∙◌, suc-add, zero-add, arith, length-append, length-drop, take-append-drop}
use Rattle.std.proofs.lemmas.List.{nil_from_length, take-append-le, drop-append-le, length-take-le}
use Rattle.std.specs.List.{fold}
use Rattle.std.specs.Simd.{first_chunks}
use Rattle.digest.specs.Rounds.{mixed}
use Rattle.digest.specs.Padding.{closed, padded}
use Rattle.digest.specs.Md5.{start, after_blocks, absorbed, written, md5}
use Rattle.digest.proofs.Fills.{closed_front}
use Rattle.digest.specs.declared.state.State.{State}

blocks_are : (n : ℕ) (m : List ℕ) (w : State) → fold (λ v block. mixed block v) w (first_chunks 64 n m) ≡ after_blocks n m w
unfolding after_blocks
blocks_are zero m w = refl
blocks_are (suc n) m w = blocks_are n (drop 64 m) (mixed (take 64 m) w)

join : (n k : ℕ) (p q : List ℕ) (w : State) → length p ≡ 64 * n → after_blocks (n + k) (p ++ q) w ≡ after_blocks k q (after_blocks n p w)
unfolding after_blocks
join zero k p q w e =
    let z : length p ≡ 0 = omega arith in
    ap (λ i. after_blocks i (p ++ q) w) (zero-add k) ∙ ap (λ z. after_blocks k (z ++ q) w) (nil_from_length p z)
join (suc n) k p q w e =
    let h : 64 ≤ length p = omega arith in
    let f : length (drop 64 p) ≡ 64 * n = omega (arith, length-drop 64 p) in
    ap (λ i. after_blocks i (p ++ q) w) (suc-add n k)
    ∙ ap (λ z. after_blocks (n + k) z (mixed (take 64 (p ++ q)) w)) (drop-append-le 64 p q h)
    ∙ ap (λ z. after_blocks (n + k) (drop 64 p ++ q) (mixed z w)) (take-append-le 64 p q h)
    ∙ join n k (drop 64 p) q (mixed (take 64 p) w) f

-- the blocks of a list are those of what it begins with
front : (n : ℕ) (p q : List ℕ) (w : State) → length p ≡ 64 * n → after_blocks n (p ++ q) w ≡ after_blocks n p w
unfolding after_blocks
front n p q w e = let z : n ≡ n + 0 = omega arith in ap (λ k. after_blocks k (p ++ q) w) z ∙ join n 0 p q w e

-- the whole blocks of a message, and then what is left of it with the padding
in_two : (m : List ℕ) → md5 m ≡ written (absorbed (closed (drop (length m / 64 * 64) m) (length m)) (absorbed m start))
unfolding md5
in_two m =
    let n = length m / 64 in
    let p = take (n * 64) m in
    let r = drop (n * 64) m in
    let q = closed r (length m) in
    let h : n * 64 ≤ length m = omega arith in
    let l = length-take-le (n * 64) m h in
    let a : length p ≡ 64 * n = omega arith in
    let b : length p % 64 ≡ 0 = omega arith in
    let d : length (p ++ q) / 64 ≡ n + length q / 64 = omega (arith, length-append p q) in
    let s = take-append-drop (n * 64) m in
    let parts : padded m ≡ p ++ q = ap (λ z. closed z (length m)) (sym s) ∙ closed_front p r (length m) b in
    let first : after_blocks n p start ≡ absorbed m start = sym (front n p r start a) ∙ ap (λ z. after_blocks n z start) s in
    ap (λ z. written (absorbed z start)) parts
    ∙ ap (λ k. written (after_blocks k (p ++ q) start)) d
    ∙ ap written (join n (length q / 64) p q start a)
    ∙ ap (λ v. written (absorbed q v)) first

-- the message cut into blocks and a rest r, and the rest with its padding, t, into blocks
pub digest_is : (m r t : List ℕ) (blocks last : List (List ℕ)) (v w : State)
    → blocks ≡ first_chunks 64 (length m / 64) m → r ≡ drop (length m / 64 * 64) m → t ≡ closed r (length m)
    → last ≡ first_chunks 64 (length t / 64) t → v ≡ fold (λ v block. mixed block v) start blocks
    → w ≡ fold (λ v block. mixed block v) v last → written w ≡ md5 m
digest_is m r t blocks last v w a b c d e f =
    let first : v ≡ absorbed m start = e ∙ ap (fold (λ v block. mixed block v) start) a ∙ blocks_are (length m / 64) m start in
    let second : w ≡ absorbed t v = f ∙ ap (fold (λ v block. mixed block v) v) d ∙ blocks_are (length t / 64) t v in
    ap written (second ∙ ap (absorbed t) first ∙ ap (λ z. absorbed z (absorbed m start)) (c ∙ ap (λ z. closed z (length m)) b)) ∙ sym (in_two m)
