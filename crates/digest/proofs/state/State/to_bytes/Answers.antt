use Rattle.std.proofs.Common.{◌≡◌, ℕ, ◌+◌, List, [], ◌∷◌, ◌++◌, length, get_or, take, ap, sym, ◌∙◌, arith, length-append}
use Rattle.std.proofs.lemmas.List.{take_more, flat_map_more}
use Rattle.std.specs.List.{flat_map}
use Rattle.digest.specs.Words.{low_first}
use Rattle.digest.proofs.Bytes.{bytes_are}
use Rattle.digest.proofs.state.State.to_bytes.Goals as goal

pub loop-word-preserved : goal.loop-word-preserved
loop-word-preserved c =
    let i = c.loop-word.word-index in
    let words : List ℕ = c.args.self.a ∷ c.args.self.b ∷ c.args.self.c ∷ c.args.self.d ∷ [] in
    let l : length c.push.new.self ≡ length c.loop-word.bytes + length c.to_le_bytes.result = ap length c.push.ensures.bytes ∙ length-append c.loop-word.bytes c.to_le_bytes.result in
    let four : length c.to_le_bytes.result ≡ 4 = ap length c.to_le_bytes.ensures in (
      omega arith,
      c.push.ensures.bytes ∙ ap (λ bs. bs ++ c.to_le_bytes.result) c.loop-word.invariant.1
          ∙ ap (λ bs. flat_map (low_first 4) (take i words) ++ bs) (c.to_le_bytes.ensures ∙ bytes_are 4 (get_or words i 0))
          ∙ flat_map_more (low_first 4) [] (take i words) (get_or words i 0) ∙ ap (flat_map (low_first 4)) (sym (take_more words i 0 c.loop-word-test.true)),
    )

pub returns : goal.returns
unfolding low_first
returns c =
    let e : c.loop-word.word-index ≡ 4 = omega arith in
    c.into_array.ensures.bytes ∙ c.loop-word.invariant.1 ∙ ap (λ k. flat_map (low_first 4) (take k (c.args.self.a ∷ c.args.self.b ∷ c.args.self.c ∷ c.args.self.d ∷ []))) e
