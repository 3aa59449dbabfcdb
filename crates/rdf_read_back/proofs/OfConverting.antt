-- What a conversion has written is read to its end, whatever its format.
use Rattle.rdf_read_back.proofs.Prelude.{ℕ, ◌+◌, ◌*◌, ◌≤◌, List, length, Option, Some, None, arith, map, IfSome, AllByRecursion, Quad, most_bytes, byte_len, IsDocumentOf, IsReadToItsEnd, IsWhole, in_lines, Kept, Tagged, IrisWithin, TokensWithin, iri_width, Writable, iri_text, rename, DocForm, Turtle, TriG, language, ConvertedIsRead, IsJob, Suffice}
use Rattle.rdf_driver.specs.declared.summary.Summary.{Summary}
use Rattle.rdf_lines.specs.declared.form.LineForm.TheVariants.{NQuads}
use Rattle.rdf_lines.specs.declared.form.LineForm.TheVariants as line
use Rattle.rdf_lines.specs.declared.form.LineForm.{LineForm}
use Rattle.rdf_lines.specs.declared.form.Style.{Style}
use Rattle.rdf_lines.proofs.FormReadBack.{form_text_read}
use Rattle.rdf_lines.proofs.WrittenLimits.{fitting as lines_fit, written_iri}
use Rattle.rdf_stream.specs.declared.form.Form.{Form}
use Rattle.rdf_stream.specs.declared.form.Form.TheVariants as form
use Rattle.rdf_stream.specs.Converts.{Accepts}
use Rattle.rdf_stream.specs.Jobs.{JobRead}
use Rattle.rdf_stream.specs.Kinds.{kind_of}
use Rattle.rdf_stream.specs.Languages.{conversion_by, lines_of, tree_job, written_form}
use Rattle.rdf_stream.specs.Graphs.{all_in_graph}
use Rattle.rdf_stream.proofs.ConvertingLemmas.{placed_writable}
use Rattle.rdf_read_back.proofs.PlacedLimits.{placed_iris, placed_shorts}
use Rattle.rdf_read_back.proofs.WrittenLimits.{fitting as trees_fit}

module _ (job : JobRead) (bytes : List ℕ) (old new : Option (List ℕ)) (s : Summary) (is : IsJob job) (token_then iri_then : ℕ)
    (l : Suffice job token_then iri_then) where
  -- the graph's IRI as it is written
  graph_fits : (g : Option (List ℕ)) → IfSome g (λ i. (iri_width job.escapes * byte_len i + 2 ≤ token_then) × (byte_len i ≤ iri_then))
      → IfSome g (λ i. length (iri_text job.escapes i) ≤ token_then) × IfSome g (λ i. byte_len i ≤ iri_then)
  graph_fits None h = (tt, tt)
  graph_fits (Some i) h = (omega (arith, written_iri job.escapes i, h.0), h.1)

  -- lines of quads that fit, in the graph
  read : (style : Style) (qs : List Quad) → Writable style qs → 2 ≤ token_then → AllByRecursion (TokensWithin job.escapes token_then) (map (rename style) qs)
      → AllByRecursion (IrisWithin iri_then) qs
      → IsReadToItsEnd (in_lines NQuads (length job.node_prefix + token_then) iri_then) (lines_of (written_form style job) (all_in_graph job.graph qs))
  read style qs writable least shorts iris =
      let fits = graph_fits job.graph l.graph in
      form_text_read (written_form style job) (all_in_graph job.graph qs) token_then iri_then is.word
      (placed_writable style job.graph is.graph qs writable) least
      (placed_shorts style job.escapes token_then job.graph fits.0 qs shorts) (placed_iris iri_then job.graph fits.1 qs iris)

  -- those of a document of a line format
  of_lines : (form : LineForm) (qs : List Quad) → IsDocumentOf (in_lines form job.limits.token job.limits.iri) bytes qs →
      IsWhole (in_lines form job.limits.token job.limits.iri) bytes
      → IsReadToItsEnd (in_lines NQuads (length job.node_prefix + token_then) iri_then) (lines_of (written_form Kept job) (all_in_graph job.graph qs))
  of_lines form qs document whole =
      let fits = lines_fit job.escapes form job.limits.token job.limits.iri bytes qs document whole token_then iri_then l.strings l.iris l.token l.kept l.iri in
      read Kept qs fits.writable fits.least fits.shorts fits.iris

  -- and those of a document of Turtle or TriG
  of_trees : (form : DocForm) (qs : List Quad) → length bytes ≤ most_bytes →
      IsDocumentOf (language form (tree_job form job).start) bytes qs → IsWhole (language form (tree_job form job).start) bytes
      → IsReadToItsEnd (in_lines NQuads (length job.node_prefix + token_then) iri_then) (lines_of (written_form Tagged job) (all_in_graph job.graph qs))
  of_trees form qs size document whole =
      let fits = trees_fit job.escapes form (tree_job form job).start bytes qs is.iris size document whole token_then iri_then l.strings
      l.iris l.token l.kept l.iri in
      read Tagged qs fits.writable fits.least fits.shorts fits.iris

  by_form : (f : Form) (a : Accepts (conversion_by (kind_of f) job) bytes old new s) →
      IsReadToItsEnd (in_lines NQuads (length job.node_prefix + token_then) iri_then) ((conversion_by (kind_of f) job).lines a.items)
  by_form form.NTriples a = of_lines line.NTriples a.items a.document a.within
  by_form form.NQuads a = of_lines NQuads a.items a.document a.within
  by_form form.Turtle a = of_trees Turtle a.items a.size a.document a.within
  by_form form.TriG a = of_trees TriG a.items a.size a.document a.within

-- so it is for the job's format
pub converted_read : ConvertedIsRead
converted_read job bytes old new s is a token_then iri_then l = by_form job bytes old new s is token_then iri_then l job.form a
