-- What passing text does to a reader, by its grammar.
use Rattle.rdf_stream.proofs.Prelude.{◌≡◌, ℕ, List, [], ◌∷◌, ◌++◌, refl, sym, ap, ◌∙◌, subst, take, encode_utf8_all, Result, Ok, Err, OnErr, append-nil, Quad, Driven, HasRead, Style, LineForm, LineAt, line_words, IsTaken, PassesLines, written_as, Writable, AllByRecursion, PassesText, RewritesText}
use Rattle.rdf_driver.specs.Words.{Words}
use Rattle.rdf_lines.specs.declared.form.Style.TheVariants.{Kept}
use Rattle.rdf_lines.specs.declared.form.LineEnding.{LineEnding}
use Rattle.rdf_lines.specs.declared.form.LineEnding.TheVariants.{Lf, CrLf}
use Rattle.rdf_lines.specs.declared.form.Escapes.TheVariants.{Plain}
use Rattle.rdf_lines.proofs.NodePrefixLemmas.{text_unprefixed}
use Rattle.rdf_lines.proofs.WithoutCrs.{lines_written}
use Rattle.rdf_lines.specs.Escaped.{PassesInto}

-- no text was passed
none_written : (ending : LineEnding) → written_as ending [] ≡ []
none_written Lf = refl
none_written CrLf = refl

-- a run that passes nothing leaves the reader as it is, for grammars whose lines are never passed
pub passes_none : {G X : Type 0} (w : Words G X Quad) (style : Style) (ending : LineEnding) (r : Driven G) → PassesText w style (written_as ending []) r [] r
passes_none w style ending r = record {
  given = [];
  is = none_written ending;
  writable = tt;
  limit = refl;
  read = λ x before quads h. subst (λ b. HasRead w r x b (quads ++ [])) (sym (append-nil before)) (subst (HasRead w r x before) (sym (append-nil quads)) h);
}

-- quads of lines can be written
taken_writable : (form : LineForm) (token iri : ℕ) (qs : List Quad) → AllByRecursion (IsTaken form token iri) qs → Writable Kept qs
taken_writable form token iri [] h = tt
taken_writable form token iri (q ∷ qs) h = ((h.0.quad, h.0.labels), taken_writable form token iri qs h.1)

-- lines are text
pub lines_passed : (ending : LineEnding) (old : Driven LineAt) (bytes : List ℕ) (new : Driven LineAt) → PassesLines ending old bytes new →
    PassesText line_words Kept (written_as ending bytes) old bytes new
lines_passed ending old bytes new h = record {
  given = h.given;
  is = lines_written ending old.grammar.rules.form old.scanner.limit old.grammar.rules.iri bytes h.given h.canonical
      ∙ ap encode_utf8_all (sym (text_unprefixed Kept Plain h.given));
  writable = taken_writable old.grammar.rules.form old.scanner.limit old.grammar.rules.iri h.given h.canonical.each;
  limit = h.limit;
  read = h.read;
}

-- so does one that rewrites nothing
pub rewrites_none : {G X : Type 0} (w : Words G X Quad) (style : Style) (r : Driven G) (lines : List ℕ) → RewritesText w style r [] r lines lines
rewrites_none w style r lines = record { written = []; appended = sym (append-nil lines); passes = passes_none w style Lf r }

-- lines with any escapes are text
pub lines_rewritten : (old : Driven LineAt) (bytes : List ℕ) (new : Driven LineAt) (before after : List ℕ) →
    PassesInto old bytes new before after → RewritesText line_words Kept old bytes new before after
lines_rewritten old bytes new before after h = record {
  written = h.lines;
  appended = h.appended;
  passes = record {
    given = h.passes.given;
    is = h.passes.are ∙ ap encode_utf8_all (sym (text_unprefixed Kept Plain h.passes.given));
    writable = h.passes.writable;
    limit = h.passes.limit;
    read = h.passes.read;
  };
}

-- also where memory was refused
pub refused_rewritten : {E : Type 0} (r : Result ℕ E) (old : Driven LineAt) (text : List ℕ) (new : Driven LineAt) (before after : List ℕ) →
    OnErr r ((n : ℕ) × PassesInto old (take n text) new before after) → OnErr r ((n : ℕ) × RewritesText line_words Kept old (take n text) new before after)
refused_rewritten (Ok x) old text new before after h = tt
refused_rewritten (Err e) old text new before after h = (h.0, lines_rewritten old (take h.0 text) new before after h.1)
