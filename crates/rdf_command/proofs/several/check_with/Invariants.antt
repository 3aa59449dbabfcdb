-- What is left to do completes the check of all documents.
use Rattle.rdf_command.proofs.Prelude.{◌≡◌, drop, written, documents_of, shut_of, devices_of, has_failed_output, shared_of, further_of}
use Rattle.rdf_command.proofs.SeveralLemmas.{Completes}
use Rattle.rdf_command.proofs.several.check_with.Given as goal

abbrev pub invariant-loop-document : goal.invariant-loop-document
invariant-loop-document g l = record {
  completes : Completes (g.H.Host.has_document l.fn.host) (shut_of g.H.Host l.fn.host
      (devices_of g.H.Input.Source g.H.Input.Explains g.O.Drain g.O.Explains)) (shared_of l.fn.plan) (documents_of l.fn.task)
      (g.O.Drain.contents l.fn.out) (g.E.Drain.contents l.fn.err) (further_of (drop l.document-index l.more)) l.turn.has_failed l.worst
      (written g.O.Drain l.out) (written g.E.Drain l.err);
  failed : l.turn.has_failed ≡ has_failed_output (written g.O.Drain l.out) (written g.E.Drain l.err);
}
