-- A word that is said stands at the end of the line, with what stands after it.
use Rattle.rdf_stream.proofs.Prelude.{◌≡◌, ◌∙◌, ◌++◌, ◌+◌, ◌-◌, ◌∷◌, ap, ap₂, arith, drop, length, sym, drop_more, between, listed, only_said, texts_of}
use Rattle.rdf_stream.proofs.ExplainsLemmas.{put_one}
use Rattle.rdf_stream.proofs.explains.put_listed.Goals.{in-Some+in_ok-extend_from_slice+in_ok-extend_from_slice-2, in_default}
use Rattle.rdf_stream.proofs.explains.put_listed.Goals as goal

pub loop-word-preserved : goal.loop-word-preserved
loop-word-preserved g c =
    let i = c.loop-word.word-index in
    let all = c.args.words.now in
    let line = c.loop-word.line.items in
    let left = c.loop-word.left in
    let rest = only_said (texts_of (drop (i + 1) all)) in
    let next = drop_more all i _ c.loop-word-test.true in
    elim c.match-word.branch [
      | in-Some+in_ok-extend_from_slice+in_ok-extend_from_slice-2 w ↦
          let word = w.in-Some.word.now in
          let these : only_said (texts_of (drop i all)) ≡ word ∷ rest =
          ap (λ ws. only_said (texts_of ws)) (next ∙ ap (λ x. x ∷ drop (i + 1) all) w.in-Some.is) in
          let first : w.extend_from_slice.new.self.items ≡ line ++ word =
          w.in_ok-extend_from_slice.ensures.items ∙ ap (λ t. line ++ t) w.as_bytes.ensures.value in
          let after : w.as_bytes-in-Some.result.now ≡ between (left - 1) = w.as_bytes-in-Some.ensures.value ∙ w.between.ensures in
          let items : c.match-word.line.items ≡ (line ++ word) ++ between (left - 1) =
          ap (λ v. v.items) w.line-is ∙ (w.in_ok-extend_from_slice-2.ensures.items ∙ ap₂ ◌++◌ first after) in (
            ap (λ l. l ++ listed rest) items ∙ put_one line word _ _ rest left these c.loop-word.invariant.0 c.loop-word.invariant.1,
            omega (arith, w.left-is, c.loop-word.invariant.1, ap length these),
          )
      | in_default w ↦
          let these : only_said (texts_of (drop i all)) ≡ rest = ap (λ ws. only_said (texts_of ws)) (next ∙ ap (λ x. x ∷ drop (i + 1) all) w.in_default.is) in (
            ap (λ v. v.items ++ listed rest) w.line-is ∙ (ap (λ ws. line ++ listed ws) (sym these) ∙ c.loop-word.invariant.0),
            w.left-is ∙ (c.loop-word.invariant.1 ∙ ap length these),
          )
    ]
