use Rattle.rdf_trig.proofs.Prelude.{subst, IsDocumentOf, IsWhole, in_words, tree_words}
use Rattle.rdf_tokens.specs.Scans.{place_of}
use Rattle.rdf_trig.specs.ReadWhole.{NotRead}
use Rattle.rdf_trig.proofs.document.read_document.Goals as goal

pub returns-in-Ok : goal.returns-in-Ok
returns-in-Ok g c =
    let x = c.args.options in
    subst (λ n. IsDocumentOf (in_words tree_words x n) c.args.bytes.now c.read_all-read.new.list × IsWhole
    (in_words tree_words x n) c.args.bytes.now) c.new-reader.ensures.token
    (c.in-Ok.ensures x c.new-reader.ensures.read)

pub returns-in-Err : goal.returns-in-Err
returns-in-Err g c =
    let x = c.args.options in
    subst (λ n. NotRead (in_words tree_words x n) c.args.bytes.now c.in-Err.fault.reason (place_of c.in-Err.fault))
    c.new-reader.ensures.token (c.in-Err.ensures x c.new-reader.ensures.read)
