-- A document at once: what one feed and the end report is what the definition of whole documents says.
use Rattle.rdf_trig.proofs.Prelude.{◌≡◌, List, Quad, tree_words}
use Rattle.rdf_tokens.specs.Scans.{place_of}
use Rattle.rdf_trig.proofs.code.LawfulGrammar.{lawful}
use Rattle.rdf_trig.proofs.code.OnePiece.{not_fed, not_finished, whole_read}
use Rattle.rdf_trig.proofs.document.read_all.Goals as goal

abbrev leaves : List Quad → Quad → List Quad → Type 0
leaves before quad after = after ≡ before

pub returns-in-Err : goal.returns-in-Err
returns-in-Err g c = λ x h.
    not_fed tree_words lawful leaves c.args.reader.now c.requires.running x h c.args.bytes.now c.in-Err.fault.reason
    (place_of c.in-Err.fault) c.feed.new.self c.args.list.now c.feed.new.sink
    c.in-Err.ensures.err

pub returns-in-Ok-finish : goal.returns-in-Ok-finish
returns-in-Ok-finish g c = λ x h.
    whole_read tree_words lawful leaves c.args.reader.now c.requires.running x h c.args.bytes.now c.feed.new.self c.in-Ok.ensures.done
    c.args.list.now c.feed.new.sink c.requires.empty c.in-Ok.ensures.ok
    c.in-Ok-finish.field-0 c.finish.new.sink c.in-Ok-finish.ensures.ok

pub returns-in-Err-finish : goal.returns-in-Err-finish
returns-in-Err-finish g c = λ x h.
    not_finished tree_words lawful leaves c.args.reader.now c.requires.running x h c.args.bytes.now c.feed.new.self c.in-Ok.ensures.done
    c.args.list.now c.feed.new.sink c.requires.empty
    c.in-Ok.ensures.ok c.in-Err-finish.fault.reason (place_of c.in-Err-finish.fault) c.finish.new.self c.finish.new.sink c.in-Err-finish.ensures.err
