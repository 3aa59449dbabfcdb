-- A line feed, and the run after it up to a byte that is no white space.
use Rattle.rdf_tokens.proofs.Prelude.{◌∙◌, sym}
use Rattle.rdf_tokens.proofs.BlankRuns.{indented, one_feed}
use Rattle.rdf_tokens.proofs.blank.indented_len.Goals as goal

pub returns-then-is_bare-clause-white : goal.returns-then-is_bare-clause-white
returns-then-is_bare-clause-white c = λ _.
    let bs = c.args.bytes.now in
    let end = c.run_end-end.result in
    let feed = sym c.stands_at.ensures ∙ c.if-not-stands_at.false in
    let bare = sym c.is_bare.ensures ∙ c.if-is_bare.true in
    let i = indented bs end feed c.run_end-end.ensures bare in
    (i.0, i.1, one_feed bs end feed c.run_end-end.ensures bare)
