-- Lines that say something, and a file whose second line is no binding: it fails there, and by the law no entries are what it says.
use Rattle.rdf_iri.proofs.Prelude.{◌≡◌, ℕ, suc, List, [], ◌∷◌, length, None, inl, inr, refl, sym, ap, ◌∙◌, ◌++◌, subst, ⊎_elim, arith, codes, chars, length-append, IsUtf8-nil, chars-nil, all_have, past, BadBinding, Sizes, BeginsWith, is_blank, IsBinding, IsPrefixId, IsSparqlPrefix, SaysNothing, byte_order_mark, Entry, TextSays, Says, IsFile, FailsAt}
use Rattle.rdf_iri.proofs.BindingLineLemmas.{keyword_from, nothing_there, no_binding, no_declaration_at}
use Rattle.rdf_iri.proofs.BindingLemmas.{no_plain_without_space, cr_kept}
use Rattle.rdf_iri.proofs.BindingSteps.{none_said}
use Rattle.rdf_iri.proofs.BindingFiles.{one_text}
use Rattle.rdf_iri.proofs.BindingLaws.{failing_files}

-- a comment says nothing
pub comment_line : SaysNothing (codes "\t# x")
comment_line = inr (codes " x", record { blanks = codes "\t"; parts = refl; are_blanks = refl }, ((λ e. omega (arith, e)), ((λ e. omega (arith, e)), tt)))

-- a directive of Turtle binds the empty prefix, with few blanks and a comment behind it
pub directive_line : IsPrefixId (codes "@prefix :<a:>.#") [] (codes "a:")
directive_line = record {
  at_name = codes " :<a:>.#";
  at_iri = codes "<a:>.#";
  at_dot = codes ".#";
  rest = codes "#";
  word = record { blanks = []; parts = refl; are_blanks = refl };
  apart = (32, codes ":<a:>.#", refl, refl);
  name = record { blanks = codes " "; parts = refl; are_blanks = refl };
  reference = record { blanks = []; parts = refl; are_blanks = refl };
  dot = record { blanks = []; parts = refl; are_blanks = refl };
  ends = inr ([], record { blanks = []; parts = refl; are_blanks = refl }, tt);
}

-- and so does one of SPARQL, in any case
pub sparql_line : IsSparqlPrefix (codes "Prefix :<a:>") [] (codes "a:")
sparql_line = record {
  keyword = codes "Prefix";
  at_name = codes " :<a:>";
  at_iri = codes "<a:>";
  rest = [];
  any_case = keyword_from (codes "Prefix") refl;
  word = record { blanks = []; parts = refl; are_blanks = refl };
  apart = (32, codes ":<a:>", refl, refl);
  name = record { blanks = codes " "; parts = refl; are_blanks = refl };
  reference = record { blanks = []; parts = refl; are_blanks = refl };
  ends = inl refl;
}

-- the letter of the file has no blank in front
letter : past is_blank (chars (codes "x")) ≡ codes "x"
unfolding chars
letter = refl

-- it is no line that says nothing
not_quiet : SaysNothing (chars (codes "x")) → ⊥
not_quiet s =
    ⊎_elim
    (λ (n : past is_blank (chars (codes "x")) ≡ []). let k : codes "x" ≡ [] = sym letter ∙ n in cc)
    (λ n. let k : codes "x" ≡ 35 ∷ n.0 = sym letter ∙ n.1 in cc)
    (nothing_there (chars (codes "x")) s)

-- and no binding
not_bound : (prefix iri : List ℕ) → IsBinding (codes "x") prefix iri → ⊥
not_bound prefix iri b =
    no_binding (codes "x") (λ p i a. no_plain_without_space (codes "x") p i b.utf8 refl a)
    (no_declaration_at (chars (codes "x")) 120 [] letter (λ e. omega (arith, e)) (λ e. omega (arith, e)) (λ e. omega (arith, e))) prefix iri b

-- so a line that is this one letter says nothing that a line may say
letter_alone : (entry : Entry) → Says (codes "x") entry → ⊥
letter_alone entry said =
    let t : said.0 ≡ codes "x" = one_text (codes "x") said.0 (codes "x") said.1 (cr_kept (codes "x") [] 120 refl (λ n. omega (arith, n))) in
    none_said (codes "x") not_quiet not_bound entry (subst (λ w. TextSays w entry) t said.2)

-- the example has no byte order mark
no_mark : BeginsWith byte_order_mark (codes "\nx") → ⊥
no_mark b = let k : suc (suc 0) ≡ suc (suc (suc (length b.0))) = ap length b.1 in omega (arith, k)

-- the first line is empty, and the second fails
pub second_line_fails : (sizes : Sizes) → FailsAt BadBinding sizes (codes "\nx") 2
second_line_fails sizes = record {
  front = [] ∷ [];
  line = codes "x";
  rest = [];
  entries = None ∷ [];
  cut = (codes "\nx", inr (no_mark, refl), (refl, (tt, (((λ n. omega (arith, n)), tt), tt))));
  says = (
    (
      [],
      inr ((λ f. let k : 0 ≡ length (f.0 ++ 13 ∷ []) = ap length f.1 in omega (arith, k, length-append f.0 (13 ∷ []))), refl),
      (IsUtf8-nil, inl (ap (all_have is_blank) chars-nil)),
    ),
    tt,
  );
  fits = ((tt, tt), omega arith);
  counted = refl;
  why = letter_alone;
}

-- so no entries are what the file says, whatever the limits
pub no_entries : (sizes : Sizes) (entries : List Entry) → IsFile sizes (codes "\nx") entries → ⊥
no_entries sizes entries = failing_files BadBinding sizes (codes "\nx") 2 entries (second_line_fails sizes)
