-- What stands in front of the last line feed does not count.
use Rattle.rdf_stream.proofs.Prelude.{◌∙◌, ◌+◌, sym, ap, take_rest, column_after}
use Rattle.rdf_stream.proofs.WatchLemmas.{column_feed}
use Rattle.rdf_stream.proofs.watch.column_after.Goals as goal

pub returns-in-Some : goal.returns-in-Some
returns-in-Some c =
    let w = c.args.bytes.now in
    c.counted.ensures ∙ (ap (column_after 1) (take_rest w (c.in-Some.feed + 1))
    ∙ sym (column_feed c.args.column w c.in-Some.feed c.in-Some.ensures.0.high c.in-Some.ensures.1))
