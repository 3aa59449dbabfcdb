-- Quads whose nodes all have labels are read back from their lines, as bytes.
use Rattle.rdf_lines.proofs.Prelude.{◌≡◌, ℕ, ◌≤◌, true, List, sym, subst, length, flat_map, encode_utf8_all, AllByRecursion, Quad, has_scheme, Lines, Reading, complete, IsDocumentOf, document_tokens, NQuads, Escapes, in_lines, quad_text, TokensWithin, tokens_of, first_place}
use Rattle.rdf_lines.proofs.PlainQuads.{IsPlain}
use Rattle.rdf_lines.proofs.WrittenText.{text_scalars, no_mark, encoded_tokens}
use Rattle.rdf_lines.proofs.SpelledLine.{Written, AllShort, document_tree, document_short, text_short, reads_back}
use Rattle.rdf_lines.proofs.LinesLemmas.{document_marked}

module _ (e : Escapes) (qs : List Quad) (limit : ℕ) where
  -- the bytes of the quads' lines
  abbrev pub bytes : List ℕ
  bytes = encode_utf8_all (flat_map (quad_text e) qs)

  -- Their tokens are complete, and those of a tree of N-Quads whose quads are these.
  abbrev pub HasTree : Type 0
  HasTree = ((tokens_of Lines limit bytes true).outcome ≡ complete) × IsPlain has_scheme NQuads (tokens_of Lines limit bytes true).tokens qs

  -- So it is where no token is longer than the limit.
  short_read_back : Written qs → AllShort limit (document_tokens (document_tree e first_place qs)) → HasTree
  short_read_back w l =
      subst (λ (r : Reading). (r.outcome ≡ complete) × IsPlain has_scheme NQuads r.tokens qs)
      (sym (encoded_tokens Lines limit (flat_map (quad_text e) qs) (text_scalars e qs w) (no_mark e qs w))) (reads_back e limit qs w first_place l)

  -- Any limit serves that no token of the quads passes.
  pub tokens_tree : Written qs → 2 ≤ limit → AllByRecursion (TokensWithin e limit) qs → HasTree
  tokens_tree w t l = short_read_back w (document_short e limit qs t l first_place)

  -- A tree with its marks makes a document.
  pub tree_back : HasTree → (iri : ℕ) → IsDocumentOf (in_lines NQuads limit iri) bytes qs
  tree_back t iri = let m = document_marked has_scheme NQuads (tokens_of Lines limit bytes true).tokens qs t.1 in (t.0, m.0, m.1, m.2)

  -- So what is written reads back, with any limit that is not below the text's length.
  pub quads_read_back : Written qs → length (flat_map (quad_text e) qs) ≤ limit → (iri : ℕ) → IsDocumentOf (in_lines NQuads limit iri) bytes qs
  quads_read_back w l = tree_back (short_read_back w (text_short e limit qs w l first_place))
