-- The column at a byte that is kept.
use Rattle.rdf_stream.proofs.Prelude.{◌≡◌, ◌∙◌, take, ap, rules, column_after}
use Rattle.rdf_stream.proofs.WatchLemmas.{column_kept}
use Rattle.rdf_stream.proofs.watch.Watch.column_at.Goals as goal

pub returns : goal.returns
returns g c = λ bytes w.
    let column : c.column_after.result ≡ column_after c.self.inside.column (take c.in_ok-at.at c.self.inside.kept.items) = search rules in
    column
    ∙ (ap (λ k. column_after k.column (take c.in_ok-at.at k.bytes)) c.self.view_is
    ∙ column_kept c.args.self.now bytes w c.args.offset c.in_ok-at.at c.in_ok-at.ensures.is)
