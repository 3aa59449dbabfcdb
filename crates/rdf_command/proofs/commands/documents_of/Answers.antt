-- Documents of the names so far, and those of the names that are left.
use Rattle.rdf_command.proofs.Prelude.{[], ◌+◌, ◌++◌, List, arith, drop, map, subst, sym, append-nil, drop_all, drop_more, passed_up, Form, AreDocuments, further_of}
use Rattle.clap.specs.Words.{Text}
use Rattle.rdf_command.proofs.GivenLemmas.{formless_among, name_among, next_document}
use Rattle.rdf_command.proofs.commands.documents_of.Goals as goal

pub loop-name-init : goal.loop-name-init
loop-name-init c tail are =
    subst (λ docs. AreDocuments c.args.word.now (map (λ s. s.now) c.args.names.now) (further_of docs ++ tail)) (sym c.new-documents.ensures.items) are

pub returns-in_err-document-clause-refused : goal.returns-in_err-document-clause-refused
returns-in_err-document-clause-refused c =
    passed_up c.from_residual.result c.in_err-document.field-0.0 _ c.from_residual.ensures.1
    (formless_among c.args.word.now _ _ _ _ c.in_err-document.field-0.0
    (name_among c.args.names.now c.loop-name.name-index _ _ (drop_more c.args.names.now c.loop-name.name-index _ c.loop-name-test.true))
    c.in_err-document.ensures.refused)

pub loop-name-preserved : goal.loop-name-preserved
loop-name-preserved c =
    subst (λ docs. (tail : List (Form × Text)) → AreDocuments c.args.word.now (map (λ s. s.now) (drop (c.loop-name.name-index + 1) c.args.names.now)) tail
    → AreDocuments c.args.word.now (map (λ s. s.now) c.args.names.now) (further_of docs ++ tail)) (sym c.in-Ok.ensures.items)
    (next_document c.args.word.now _ _ _ _ c.loop-name.documents.items c.in_ok-document.document
    (drop_more c.args.names.now c.loop-name.name-index _ c.loop-name-test.true)
    c.in_ok-document.ensures.form c.in_ok-document.ensures.name c.loop-name.invariant)

pub returns-clause-documents : goal.returns-clause-documents
returns-clause-documents c =
    let end = drop_all c.loop-name.name-index c.args.names.now (omega (arith, c.loop-name-test.false)) in
    subst (AreDocuments c.args.word.now (map (λ s. s.now) c.args.names.now)) (append-nil (further_of c.loop-name.documents.items))
    (c.loop-name.invariant [] (subst (λ names. AreDocuments c.args.word.now (map (λ s. s.now) names) []) (sym end) tt))
