-- The laws at two quads that have each kind of node, a string with characters that are escaped, and a graph label; and at a document of one line.
use Rattle.rdf_lines.proofs.Prelude.{◌≡◌, ◌≢◌, ℕ, ◌<◌, true, false, List, [], ◌∷◌, ◌++◌, refl, sym, ◌∙◌, subst, Some, None, inl, inr, arith, lit<, lit≤, codes, map, encode_utf8_all, AllByRecursion, encode, chars, is_utf8, utf8_valid_len, utf8_error_len, Lines, Kind, IriRef, Dot, LineEnd, Reason, label_name, tag_name, shape, kind_of, is_live, is_fit, Label, Anon, Cell, Lang, Blank, Resource, Literal, Quad, IsIri, IsLabel, IsTag, has_scheme, Place, Token, step, read, tokens, complete, token_too_long, no_token, tokens_of, Marked, unmarked, Due, IsDocumentOf, IsWithin, GoesOn, Refused, IsReadToItsEnd, Driven, HasRead, NTriples, NQuads, form-matches, Ascii, Kept, Tagged, Leaf, Ref, Named, Document, last, next, document_tokens, documents, trees, Begin, ran, run, in_lines, split_lines, IsDocumentWithin, IsGoodLine, IsBadLine, AreGoodLines, LineAt, line_words, Writable, rename, text, Form, unprefixed, named, name_node, ReadsBack, IrisWithin, TokensWithin}
use Rattle.std.specs.Fmt.{digits}
use Rattle.rdf_terms.specs.Classes.{has}
use Rattle.rdf_terms.specs.Terms.{Iri}
use Rattle.rdf_lines.specs.declared.form.Escapes.TheVariants.{Plain}
use Rattle.rdf_lines.specs.Lines.{empty, one}
use Rattle.rdf_lines.proofs.DocumentLines.{run_accepted}
use Rattle.rdf_lines.proofs.SplitLemmas.{documents_lines, good_read}
use Rattle.rdf_lines.specs.NodePrefixes.{text_in}
use Rattle.rdf_lines.proofs.AcceptedLemmas.{quads_due, documents_read, refused_none}
use Rattle.rdf_lines.proofs.Due.{due_ran}
use Rattle.rdf_lines.proofs.SettledLemmas.{quads_settled, due_settled, due_begins}
use Rattle.rdf_lines.proofs.ReadBack.{tokens_tree, tree_back}
use Rattle.rdf_lines.proofs.WellFormed.{document_writable}
use Rattle.rdf_lines.proofs.WrittenLimits.{document_read_back}
use Rattle.rdf_lines.proofs.FormReadBack.{named_writable, all_short, form_reads_back, form_text_read, joined_read_back, form_ascii}
use Rattle.rdf_lines.proofs.NodePrefixLemmas.{no_change, names_apart, forms_apart}

abbrev iri : List ℕ
iri = codes "http://a/p"

abbrev label : List ℕ
label = codes "a27"

abbrev tag : List ℕ
tag = codes "en-GB"

abbrev example : List Quad
example = record { subject = Blank (Label label); predicate = iri; object = Resource (Blank (Anon 27)); graph = None }
    ∷ record { subject = Blank (Cell 27); predicate = iri; object = Literal (34 ∷ 10 ∷ 0xE9 ∷ []) (Lang tag); graph = Some (Iri iri) } ∷ []

-- an absolute IRI
iri_is : IsIri iri
unfolding has
iri_is = record { characters = refl; scheme = refl }

-- a label
label_is : IsLabel label
unfolding has
label_is = form-matches (label_name Lines) label refl

-- a language tag
tag_is : IsTag tag
unfolding has
tag_is = form-matches tag_name tag refl

-- with a word in front of the names
abbrev word : List ℕ
word = codes "a7"

abbrev other : List ℕ
other = codes "b7"

abbrev with_word : Form
with_word = record { style = Tagged; escapes = Plain; prefix = word }

abbrev with_other : Form
with_other = record { style = Tagged; escapes = Plain; prefix = other }

abbrev in_ascii : Form
in_ascii = record { style = Tagged; escapes = Ascii; prefix = word }

-- what is written for the quads, with their nodes named by their offsets and the word
pub written : text_in with_word example ≡ codes "_:a7na27 <http://a/p> _:a7a27 .\n_:a7c27 <http://a/p> \"\\\"\\né\"@en-GB <http://a/p> .\n"
unfolding digits
written = refl

-- the quads can be written so
writable : Writable Tagged example
writable = (
  (record { subject = label_is; predicate = iri_is; object = lit< tt; graph = tt }, record { subject = tt; object = tt; graph = tt }),
  (
    (record { subject = lit< tt; predicate = iri_is; object = (refl, tag_is); graph = iri_is }, record { subject = tt; object = tt; graph = tt }),
    tt,
  ),
)

-- what was written reads back as the named quads
pub example_reads_back : ReadsBack with_word example 86
unfolding digits
example_reads_back = form_reads_back with_word example 86 refl writable (lit≤ tt)

-- in ASCII U+00E9 and U+1F600 are written as escapes, in strings and in IRIs, and each byte is below 128
abbrev faces : List Quad
faces = record { subject = Blank (Label label); predicate = codes "http://a/é"; object = Literal (0x1F600 ∷ []) (Lang tag); graph = None } ∷ []

-- by the definition it is this text
pub ascii_written_so : text_in in_ascii faces ≡ codes "_:a7na27 <http://a/\\u00E9> \"\\U0001F600\"@en-GB .\n"
ascii_written_so = refl

-- they are quads that may be written
faces_writable : Writable Tagged faces
unfolding has
faces_writable = (
  (
    record { subject = label_is; predicate = record { characters = refl; scheme = refl }; object = (refl, tag_is); graph = tt },
    record { subject = tt; object = tt; graph = tt },
  ),
  tt,
)

-- the label is ASCII, which the law of bytes asks
low_label : AllByRecursion (λ c. c < 128) label
low_label = (lit< tt, (lit< tt, (lit< tt, tt)))

-- so each byte is below 128
pub ascii_is_low : AllByRecursion (λ b. b < 128) (encode_utf8_all (text_in in_ascii faces))
ascii_is_low = form_ascii Tagged word faces refl faces_writable (record { subject = low_label; object = tt; graph = tt }, tt)

-- and it reads back with limits of 60
pub ascii_reads_back : ReadsBack in_ascii faces 60
ascii_reads_back = form_reads_back in_ascii faces 60 refl faces_writable (lit≤ tt)

-- two such texts in a row, whose nodes stay apart
pub joined_reads_back : IsDocumentOf (in_lines NQuads 180 10) (encode_utf8_all (text_in with_word example) ++ encode_utf8_all (text_in with_other example))
    (map (named with_word) example ++ map (named with_other) example)
unfolding digits
joined_reads_back = joined_read_back with_word with_other example example 180 10 refl refl refl writable writable (lit≤ tt)

-- one label under two words of the same length is two nodes
pub one_label_in_two_documents_apart : name_node with_word (Label label) ≢ name_node with_other (Label label)
one_label_in_two_documents_apart = forms_apart with_word with_other (Label label) (Label label) refl (λ e. let z : 97 ≡ 98 = heads e in omega arith) tt tt
  where
    heads : {c d : ℕ} {u v : List ℕ} → c ∷ u ≡ d ∷ v → c ≡ d
    heads e = cc

-- a label that looks like an offset is kept apart from the node of that offset
pub label_and_node_apart : name_node with_word (Label label) ≢ name_node with_word (Anon 27)
label_and_node_apart e = let same : Label label ≡ Anon 27 = names_apart with_word (Label label) (Anon 27) label_is (lit< tt) e in cc

-- the empty word changes nothing
pub example_without_a_word : (text_in (unprefixed Tagged Plain) example ≡ text Tagged Plain example)
    × (map (named (unprefixed Tagged Plain)) example ≡ map (rename Tagged) example)
example_without_a_word = no_change Tagged Plain example

-- the bytes of the two lines are read to their end, where a token may have 12 characters and the word, and an IRI 10 bytes
short : AllByRecursion (IrisWithin 10) example
unfolding encode
short = (
  record { subject = tt; predicate = lit≤ tt; object = tt; graph = tt },
  (record { subject = tt; predicate = lit≤ tt; object = tt; graph = lit≤ tt }, tt),
)

abbrev bytes : List ℕ
bytes = encode_utf8_all (text_in with_word example)

abbrev quads : List Quad
quads = map (named with_word) example

-- no part of the lines is longer than 12 characters without the word
short_tokens : AllByRecursion (TokensWithin Plain 12) (map (rename Tagged) example)
unfolding digits
short_tokens = (
  record { subject = lit≤ tt; predicate = lit≤ tt; object = lit≤ tt; graph = tt },
  (record { subject = lit≤ tt; predicate = lit≤ tt; object = (lit≤ tt, lit≤ tt); graph = lit≤ tt }, tt),
)

-- the lines are read to their end under a limit that is higher by two
pub example_is_read : IsReadToItsEnd (in_lines NQuads 14 10) bytes
example_is_read = form_text_read with_word example 12 10 refl writable (lit≤ tt) short_tokens short

-- under it what was written reads back as the named quads
short_reads_back : IsDocumentOf (in_lines NQuads 14 10) bytes quads
short_reads_back =
    let tree = tokens_tree Plain quads 14 (named_writable with_word example refl writable) (lit≤ tt) (all_short with_word 12 example short_tokens) in
    tree_back Plain quads 14 tree 10

-- they are refused nowhere, and are a document that is read
within : IsWithin (in_lines NQuads 14 10) bytes
unfolding digits encode
within = record {
  tokens = λ v e. let z : complete ≡ token_too_long = sym example_is_read.whole.ends ∙ e in cc;
  limits = example_is_read.whole.front.kept;
  size = lit≤ tt;
}

-- no reason refuses them
pub example_is_not_refused : (reason : Reason) (at : Place) → Refused (in_lines NQuads 14 10) bytes true reason at → ⊥
example_is_not_refused reason at x = refused_none NQuads 14 10 bytes quads reason at x short_reads_back within

-- before the first byte more may come
pub example_goes_on : GoesOn (in_lines NQuads 14 10) []
example_goes_on = (documents_read NQuads 14 10 bytes quads short_reads_back within).fronts [] bytes refl

-- their quads can be written as they are, and what is written for them is read with limits of 64
pub example_is_writable : Writable Kept quads
example_is_writable = document_writable NQuads 14 10 bytes quads short_reads_back

-- the lines of the named quads are read to their end, where a token may have two characters more
pub example_lines_are_read : IsReadToItsEnd (in_lines NQuads 66 64) (encode_utf8_all (text_in (record { style = Kept; escapes = Plain; prefix = word }) quads))
example_lines_are_read =
    document_read_back Plain word NQuads 14 10 bytes quads refl short_reads_back example_is_read.whole 64 64
    (lit≤ tt) (lit≤ tt) (lit≤ tt) (lit≤ tt) (lit≤ tt)

-- a line of N-Triples
abbrev one_line : List ℕ
one_line = codes "<a:> <a:> <a:>.\n"

abbrev spelled : Kind → ℕ → List ℕ → Token
spelled k n w = record { kind = k; text = w; at = record { offset = n; line = 1 } }

abbrev line_tokens : List Token
line_tokens =
    spelled IriRef 0 (codes "<a:>") ∷ spelled IriRef 5 (codes "<a:>") ∷ spelled IriRef 10 (codes "<a:>") ∷ spelled Dot 14
    (codes ".") ∷ spelled LineEnd 15 (codes "\n") ∷ []

-- the scanner's tokens of it, computed
line_read : (tokens_of Lines 8 one_line false).tokens ≡ line_tokens
unfolding tokens_of tokens read step kind_of is_live shape has chars utf8_valid_len utf8_error_len is_utf8 encode is_fit
line_read = refl

abbrev line_quad : Quad
line_quad = record { subject = Iri (codes "a:"); predicate = codes "a:"; object = Resource (Iri (codes "a:")); graph = None }

-- they are a statement, and bring its quad
line_ran : run has_scheme NTriples Begin line_tokens ≡ ran Begin (line_quad ∷ [])
unfolding has
line_ran = refl

-- the quad is due after them
line_due : Due (documents NTriples) line_tokens (line_quad ∷ [])
line_due = due_ran NTriples line_tokens Begin (line_quad ∷ []) line_ran

-- A reader that has read it has put its quad, and no other.
pub line_is_put : (r : Driven LineAt) (iri : ℕ) (quads : List Quad) → r.scanner.limit ≡ 8 →
    HasRead line_words r (record { form = NTriples; iri = iri }) one_line quads → quads ≡ line_quad ∷ []
line_is_put r iri quads l h =
    let due = (quads_due r (record { form = NTriples; iri = iri }) one_line quads h).1 in
    let here : Due (documents NTriples) (tokens_of Lines 8 one_line false).tokens quads =
    subst (λ n. Due (documents NTriples) (tokens_of Lines n one_line false).tokens quads) l due in
    due_settled NTriples line_tokens quads (line_quad ∷ []) (subst (λ ts. Due (documents NTriples) ts quads) line_read here) line_due

-- Each document that begins with the line has its quad first.
pub line_is_first : (more : List Token) (all : List Marked) → documents NTriples (line_tokens ++ more) all →
    (rest : List Quad) × (unmarked all ≡ line_quad ∷ rest)
line_is_first more all d = due_begins NTriples line_tokens more (line_quad ∷ []) all line_due d

-- the tree of the line, and of the end after it
abbrev spells : ℕ → List ℕ → Leaf
spells n w = record { text = w; at = record { offset = n; line = 1 } }

abbrev line_tree : Document
line_tree =
    next
    (one (record {
      subject = Ref (spells 0 (codes "<a:>"));
      predicate = spells 5 (codes "<a:>");
      object = Named (Ref (spells 10 (codes "<a:>")));
      graph = None;
      dot = spells 14 (codes ".");
    }))
    (spells 15 (codes "\n")) (last empty (record { text = []; at = record { offset = 16; line = 2 } }))

-- Whatever tree its tokens have, the quad is the same, and its mark is that of the object.
pub line_quad_settled : (qs : List Marked) → trees NTriples (document_tokens line_tree) qs → qs ≡ record { item = line_quad; mark = 3 } ∷ []
unfolding has
line_quad_settled qs d =
    quads_settled NTriples (document_tokens line_tree) qs (record { item = line_quad; mark = 3 } ∷ []) d
    (line_tree, refl, (((λ e. refl), ((λ e. refl), ((λ e. refl), ((λ e. refl), ((λ e. refl), ((λ e. refl), tt)))))), (refl, tt)), refl)

-- the lines of a text, between CR and LF an empty one
pub text_is_split : split_lines (codes "a\r\n\nb") ≡ codes "a\r" ∷ codes "\n" ∷ codes "\n" ∷ codes "b" ∷ []
text_is_split = refl

-- each of the two written lines is a document, and they have the quads of both
pub example_is_its_lines : AreGoodLines (in_lines NQuads 14 10) true (split_lines bytes) quads
unfolding digits encode
example_is_its_lines = (documents_lines NQuads 14 10 bytes quads (lit≤ tt)).0
    (record { document = short_reads_back; within = within })

-- a line without a token, and an empty one
abbrev two_lines : List ℕ
two_lines = codes "x\n\n"

-- in the first of them no token stands
first_stops : (tokens_of Lines 8 (codes "x\n") true).outcome ≡ no_token
unfolding tokens_of tokens read step kind_of is_live shape has chars utf8_valid_len utf8_error_len is_utf8 encode is_fit
first_stops = refl

-- so it is bad
first_is_bad : IsBadLine (in_lines NTriples 8 10) true (codes "x\n")
first_is_bad qs h = let z : no_token ≡ complete = sym first_stops ∙ h.accepted.document.0 in cc

-- and the second is good
second_is_good : IsGoodLine (in_lines NTriples 8 10) false (codes "\n") []
unfolding tokens_of tokens read step kind_of is_live shape has chars utf8_valid_len utf8_error_len is_utf8 encode is_fit
second_is_good = record { accepted = run_accepted NTriples 8 10 (codes "\n") [] (lit≤ tt) (record { whole = refl; ran = refl }); marked = λ e. refl }

-- so it is what is left
pub second_is_left : IsDocumentWithin (in_lines NTriples 8 10) (codes "\n") []
second_is_left =
    good_read NTriples 8 10 two_lines (codes "\n" ∷ []) (codes "x\n" ∷ []) [] (lit≤ tt)
    (inr
    (record {
      bad_after = [];
      is_bad = first_is_bad;
      after = inl (record { kept_after = []; quads = []; quads_after = []; is_good = second_is_good; after = (refl, refl, refl); lines = refl; all = refl });
      lines = refl;
    }))
