-- The line in front of the place, by the last line feed there; or enough of it, where there is none.
use Rattle.rdf_stream.proofs.Prelude.{◌≡◌, ◌∙◌, ◌+◌, [], ◌++◌, take, drop, sym, ap, ⊎_elim, arith, rules, false_from_ne_true, nil_from_length, take_rest, last_of, line_after, reach}
use Rattle.rdf_stream.proofs.WatchLemmas.{last_part, line_of_all, line_of_last}
use Rattle.rdf_stream.proofs.watch.Watch.line_before.Goals as goal

pub returns-in-Some : goal.returns-in-Some
returns-in-Some g c = λ bytes w.
    let front = take c.args.at c.deref.result.now in
    let kept : c.deref.result.now ≡ c.args.self.now.bytes = search rules in
    let line = line_of_last w.gone front c.in-Some.feed c.in-Some.ensures.0.high c.in-Some.ensures.1
    (λ k a t. false_from_ne_true _ (c.in-Some.ensures.0.after k a t)) in
    let told : c.last_of.result.now ≡ last_of reach (drop (c.in-Some.feed + 1) front) =
    c.last_of.ensures ∙ ap (last_of reach) (take_rest front (c.in-Some.feed + 1)) in
    told ∙ (ap (last_of reach) (sym line) ∙ ap (λ v. last_of reach (line_after [] (w.gone ++ take c.args.at v))) kept)

pub returns-in-None : goal.returns-in-None
returns-in-None g c = λ bytes w.
    let front = take c.args.at c.deref.result.now in
    let kept : c.deref.result.now ≡ c.args.self.now.bytes = search rules in
    let line = line_of_all w.gone front (λ k t. false_from_ne_true _ (c.in-None.ensures k (omega arith) t)) in
    let told : c.last_of-in-None.result.now ≡ last_of reach front = c.last_of-in-None.ensures in
    let all : last_of reach front ≡ last_of reach (line_after [] w.gone ++ front) = ⊎_elim
    (λ e. let none : w.gone ≡ [] = nil_from_length w.gone (search rules) in ap (λ l. last_of reach (line_after [] l ++ front)) (sym none))
    (λ m. sym (last_part (line_after [] w.gone) front (search rules))) c.if-at-ge-REACH.either in
    told ∙ (all ∙ (ap (last_of reach) (sym line) ∙ ap (λ v. last_of reach (line_after [] (w.gone ++ take c.args.at v))) kept))
