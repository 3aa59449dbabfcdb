-- Each law at an example.
use Rattle.rdf_trig.proofs.Prelude.{◌++◌, ◌≡◌, List, [], ◌∷◌, drop, Some, None, refl, ◌∙◌, subst, codes, encode, Typed, Resource, resolved, Due, unmarked, IsFront, Rises, bound_to, Binds, IriRef, Prefix, PnameNs, PnameLn, Semicolon, OpenBracket, CloseBracket, OpenBrace, End, Anon, Cell, Blank, Quad, known_chars, RdfFirst, XsdBoolean, Unexpected, TooDeep, Unbound, NoBase, IriTooLong, TooManyBindings, Token, Marked, InForce, token, TriG, reference_in, name_in, with_binding, is_full, in_default, Use, stands, document_events, event_quads, document_quads, documents, trees, InTree, sized, spelt, Top, Listed, WantPrefixIri, Sparql, Statement, InPropertyList, At, Start, Over, Want, After, AfterPropertyList, at_start, ran, accept_all, CompletedBy, IsRefusedAfter, Reads, ViableWhereBound, ShapedAndBound, NamelessWhere}
use Rattle.std.proofs.Common.{take}
use Rattle.rdf_terms.specs.Classes.{has}
use Rattle.rdf_terms.specs.Terms as term
use Rattle.rdf_trig.specs.Machine.{State}
use Rattle.rdf_trig.proofs.examples.Documents.{leaf, quad, start, nested_tokens, nested_tree, nested_quads, nested_is, booleans_tokens, booleans_tree, booleans_quads, booleans_is, inner_collection_quads, inner_collection_tree, one_label_tokens, one_label_quads, one_label_is}
use Rattle.rdf_trig.proofs.theorems.StatedLaws.{due_front, stops, begins, tree_told, never_fall}
use Rattle.rdf_trig.proofs.machine.ExactDocuments.{same_quads, same_due, accepted_document, document_accepted}
use Rattle.rdf_trig.proofs.trees.BoundNames.{settled, viable_bound}
use Rattle.rdf_trig.proofs.trees.CompletedBeginnings.{completed}
use Rattle.rdf_trig.proofs.trees.NamesLemmas.{nameless_where, binds_prefix}

-- A property list, `[ P S ]`, with S and P as in the vectors.
abbrev brackets_tokens : List Token
brackets_tokens =
    token OpenBracket (leaf (codes "[") 0 1) ∷ token IriRef (leaf (codes "<http://a/p>") 2 1) ∷ token IriRef (leaf (codes "<http://a/s>") 15 1) ∷
    token CloseBracket (leaf (codes "]") 28 1) ∷ []

abbrev brace : Token
brace = token OpenBrace (leaf (codes "{") 30 1)

abbrev brackets_state : State
brackets_state = record { setting = in_default start; mode = AfterPropertyList (sized (Some (Blank (Anon 0)))) Top; ready = [] }

brackets_ran : accept_all TriG (at_start start) brackets_tokens ≡ ran brackets_state
    (quad (Blank (Anon 0)) (codes "http://a/p") (Resource (term.Iri (codes "http://a/s"))) None ∷ [])
unfolding reference_in name_in resolved is_full has encode
brackets_ran = refl

-- A property list is no label of a graph: the brace after it is in no tree.
pub brackets_is_no_label : IsRefusedAfter TriG start brackets_tokens brace [] Unexpected
brackets_is_no_label = stops TriG start brackets_tokens brace [] brackets_state _ Unexpected brackets_ran refl

-- A prefix that is not bound: `S P S ; <http://a/q> e:x`.
abbrev unbound_tokens : List Token
unbound_tokens =
    token IriRef (leaf (codes "<http://a/s>") 0 1) ∷ token IriRef (leaf (codes "<http://a/p>") 13 1) ∷ token IriRef (leaf (codes "<http://a/s>") 26 1) ∷
    token Semicolon (leaf (codes ";") 39 1) ∷ token IriRef (leaf (codes "<http://a/q>") 41 1) ∷ []

abbrev unbound_token : Token
unbound_token = token PnameLn (leaf (codes "e:x") 54 1)

abbrev unbound_state : State
unbound_state =
    record {
      setting = in_default start;
      mode = Want (Listed (sized (Some (term.Iri (codes "http://a/s")))) (spelt (Some (codes "http://a/q"))) (Statement Top));
      ready = [];
    }

unbound_ran : accept_all TriG (at_start start) unbound_tokens ≡ ran unbound_state
    (quad (term.Iri (codes "http://a/s")) (codes "http://a/p") (Resource (term.Iri (codes "http://a/s"))) None ∷ [])
unfolding reference_in name_in resolved is_full has encode
unbound_ran = refl

pub unbound_refused : IsRefusedAfter TriG start unbound_tokens unbound_token [] Unbound
unfolding reference_in name_in resolved is_full has encode
unbound_refused = stops TriG start unbound_tokens unbound_token [] unbound_state (quad (term.Iri (codes "http://a/s")) (codes "http://a/p")
    (Resource (term.Iri (codes "http://a/s"))) None ∷ []) Unbound unbound_ran refl

-- A reference without a base: `<s>`.
abbrev baseless_tokens : List Token
baseless_tokens = []

abbrev baseless_token : Token
baseless_token = token IriRef (leaf (codes "<s>") 0 1)

abbrev baseless_state : State
baseless_state = record { setting = in_default start; mode = Start; ready = [] }

baseless_ran : accept_all TriG (at_start start) baseless_tokens ≡ ran baseless_state []
unfolding reference_in name_in resolved is_full has encode
baseless_ran = refl

pub baseless_refused : IsRefusedAfter TriG start baseless_tokens baseless_token [] NoBase
unfolding reference_in name_in resolved is_full has encode
baseless_refused = stops TriG start baseless_tokens baseless_token [] baseless_state [] NoBase baseless_ran refl

-- limits that are met soon
abbrev tight : InForce
tight = record { base = None; bindings = []; limits = record { token = 16777216; depth = 1; bindings = 1; iri = 10 } }

abbrev tight_bound : InForce
tight_bound = record { base = None; bindings = (codes "a", codes "b:/") ∷ []; limits = record { token = 16777216; depth = 1; bindings = 1; iri = 10 } }

-- A bracket in a bracket, where one may be open: `<a:s> <a:p> [ <a:q> [`.
abbrev deep_tokens : List Token
deep_tokens =
    token IriRef (leaf (codes "<a:s>") 0 1) ∷ token IriRef (leaf (codes "<a:p>") 6 1) ∷ token OpenBracket (leaf (codes "[") 12 1) ∷
    token IriRef (leaf (codes "<a:q>") 14 1) ∷ []

abbrev deep_token : Token
deep_token = token OpenBracket (leaf (codes "[") 20 1)

abbrev deep_state : State
deep_state =
    record {
      setting = in_default tight;
      mode = Want (Listed (sized (Some (Blank (Anon 12)))) (spelt (Some (codes "a:q")))
          (InPropertyList (At (Listed (sized (Some (term.Iri (codes "a:s")))) (spelt (Some (codes "a:p"))) (Statement Top)))));
      ready = [];
    }

deep_ran : accept_all TriG (at_start tight) deep_tokens ≡ ran deep_state (quad (term.Iri (codes "a:s")) (codes "a:p") (Resource (Blank (Anon 12))) None ∷ [])
unfolding reference_in name_in resolved is_full has encode
deep_ran = refl

pub deep_refused : IsRefusedAfter TriG tight deep_tokens deep_token [] TooDeep
unfolding reference_in name_in resolved is_full has encode
deep_refused = stops TriG tight deep_tokens deep_token [] deep_state
    (quad (term.Iri (codes "a:s")) (codes "a:p") (Resource (Blank (Anon 12))) None ∷ []) TooDeep deep_ran refl

-- An IRI of 12 bytes, where 10 may be: `<http://a/ss>`.
abbrev long_tokens : List Token
long_tokens = []

abbrev long_token : Token
long_token = token IriRef (leaf (codes "<http://a/ss>") 0 1)

abbrev long_state : State
long_state = record { setting = in_default tight; mode = Start; ready = [] }

long_ran : accept_all TriG (at_start tight) long_tokens ≡ ran long_state []
unfolding reference_in name_in resolved is_full has encode
long_ran = refl

pub long_refused : IsRefusedAfter TriG tight long_tokens long_token [] IriTooLong
unfolding reference_in name_in resolved is_full has encode
long_refused = stops TriG tight long_tokens long_token [] long_state [] IriTooLong long_ran refl

-- A second prefix, where one may be bound; the first may be bound anew: `PREFIX a: <a:/> PREFIX a: <b:/> PREFIX b: <b:/>`.
abbrev many_tokens : List Token
many_tokens =
    token Prefix (leaf (codes "PREFIX") 0 1) ∷ token PnameNs (leaf (codes "a:") 7 1) ∷ token IriRef (leaf (codes "<a:/>") 10 1) ∷
    token Prefix (leaf (codes "PREFIX") 16 1) ∷ token PnameNs (leaf (codes "a:") 23 1) ∷ token IriRef (leaf (codes "<b:/>") 26 1) ∷
    token Prefix (leaf (codes "PREFIX") 32 1) ∷ token PnameNs (leaf (codes "b:") 39 1) ∷ []

abbrev many_token : Token
many_token = token IriRef (leaf (codes "<b:/>") 42 1)

abbrev many_state : State
many_state = record { setting = in_default tight_bound; mode = WantPrefixIri Sparql (codes "b"); ready = [] }

many_ran : accept_all TriG (at_start tight) many_tokens ≡ ran many_state []
unfolding reference_in name_in resolved is_full has encode
many_ran = refl

pub many_refused : IsRefusedAfter TriG tight many_tokens many_token [] TooManyBindings
unfolding reference_in name_in resolved is_full has encode
many_refused = stops TriG tight many_tokens many_token [] many_state [] TooManyBindings many_ran refl

-- A document that ends in a statement: `S P S` and the end.
abbrev ended_tokens : List Token
ended_tokens =
    token IriRef (leaf (codes "<http://a/s>") 0 1) ∷ token IriRef (leaf (codes "<http://a/p>") 13 1) ∷ token IriRef (leaf (codes "<http://a/s>") 26 1) ∷ []

abbrev ended_token : Token
ended_token = token End (leaf (codes "") 38 1)

abbrev ended_state : State
ended_state =
    record {
      setting = in_default start;
      mode = After (Listed (sized (Some (term.Iri (codes "http://a/s")))) (spelt (Some (codes "http://a/p"))) (Statement Top));
      ready =
          (quad (term.Iri (codes "http://a/s")) (codes "http://a/p") (Resource (term.Iri (codes "http://a/s"))) None ∷ []);
    }

ended_ran : accept_all TriG (at_start start) ended_tokens ≡ ran ended_state []
unfolding reference_in name_in resolved is_full has encode
ended_ran = refl

pub ended_refused : IsRefusedAfter TriG start ended_tokens ended_token [] Unexpected
unfolding reference_in name_in resolved is_full has encode
ended_refused = stops TriG start ended_tokens ended_token [] ended_state [] Unexpected ended_ran refl

booleans_are : document_quads start 0 booleans_tree ≡ booleans_quads
unfolding reference_in name_in resolved is_full has
booleans_are = refl

inner_are : event_quads 0 (document_events start inner_collection_tree) ≡ inner_collection_quads
unfolding reference_in name_in resolved is_full has
inner_are = refl

-- The events of the vector of two booleans have its quads.
pub booleans_told : event_quads 0 (document_events start booleans_tree) ≡ booleans_quads
booleans_told = (tree_told TriG start booleans_tree).1 ∙ booleans_are

pub marks_rise : Rises 0 inner_collection_quads
marks_rise = subst (Rises 0) inner_are (never_fall TriG start inner_collection_tree)

pub booleans_settled : (qs : List Marked) → trees TriG start booleans_tokens qs → qs ≡ booleans_quads
unfolding reference_in resolved has
booleans_settled qs t = same_quads TriG start booleans_tokens qs booleans_quads t (booleans_tree, refl, booleans_told)

-- After the second boolean the collection's own quad and the first item's are due.
abbrev due_quads : List Quad
due_quads =
    quad (term.Iri (codes "http://a/s")) (codes "http://a/p") (Resource (Blank (Cell 27))) None ∷
    quad (Blank (Cell 27)) (known_chars RdfFirst) (term.Literal (codes "true") (Typed (known_chars XsdBoolean))) None ∷ []

pub booleans_due : (qs : List Quad) → Due (documents TriG start) (take 5 booleans_tokens) qs → qs ≡ due_quads
booleans_due qs d = same_due TriG start (take 5 booleans_tokens) qs due_quads d (drop 5 booleans_tokens, booleans_quads, booleans_is, refl)

-- `:s` stands for its IRI in every tree that begins as the vector does.
abbrev name_token : Token
name_token = token PnameLn (leaf (codes ":s") 21 2)

name_place : InTree TriG start (take 3 nested_tokens) name_token (stands (Some (codes "http://e/s")))
unfolding reference_in name_in resolved is_full has
name_place = record {
  tree = nested_tree;
  front = take 3 (document_events start nested_tree);
  rest = drop 4 (document_events start nested_tree);
  events = refl;
  read = refl;
}

pub name_settled : (u : Use) → InTree TriG start (take 3 nested_tokens) name_token u → u ≡ stands (Some (codes "http://e/s"))
name_settled u p = settled TriG start (take 3 nested_tokens) name_token u (stands (Some (codes "http://e/s"))) p name_place

-- What the vector's first five tokens name is bound, in every tree that begins with them.
pub nested_bound : ViableWhereBound TriG start (take 5 nested_tokens)
nested_bound = viable_bound TriG start (take 5 nested_tokens)

pub nested_front : ShapedAndBound TriG start (take 5 nested_tokens)
nested_front = ViableWhereBound.bound nested_bound (drop 5 nested_tokens, nested_quads, nested_is)

pub nested_completed : CompletedBy (documents TriG start) (take 10 nested_tokens)
nested_completed = (completed TriG start (take 10 nested_tokens)).0 (drop 10 nested_tokens, nested_quads, nested_is)

pub name_nameless : name_in start (leaf (codes "e:x") 0 1) ≡ None
name_nameless = NamelessWhere.no_name (nameless_where start (leaf (codes "e:x") 0 1)) refl

pub prefix_bound : bound_to (with_binding start (codes "x") (Some (codes "http://x/"))).bindings (codes "x") ≡ Some (codes "http://x/")
prefix_bound = Binds.bound (binds_prefix start (codes "x") (codes "http://x/")) (codes "x")

-- The machine gives out the quads of the vector of one label.
abbrev over : State
over = record { setting = in_default start; mode = Over; ready = [] }

label_ran : accept_all TriG (at_start start) one_label_tokens ≡ ran over (unmarked one_label_quads)
unfolding reference_in name_in resolved is_full has encode
label_ran = refl

pub label_document : (all : List Marked) × documents TriG start one_label_tokens all × (unmarked all ≡ unmarked one_label_quads)
label_document = accepted_document TriG start one_label_tokens over (unmarked one_label_quads) label_ran refl

pub label_read : Reads TriG start one_label_tokens (unmarked one_label_quads)
label_read = begins TriG start one_label_tokens over (unmarked one_label_quads) label_ran

pub label_accepted : (s : State) × (accept_all TriG (at_start start) one_label_tokens ≡ ran s (unmarked one_label_quads)) × (s.mode ≡ Over)
label_accepted = document_accepted TriG start one_label_tokens one_label_quads one_label_is (IsFront.kept (Reads.front label_read))

pub booleans_begin : (rest : List Quad) × (unmarked booleans_quads ≡ due_quads ++ rest)
booleans_begin =
    due_front TriG start (take 5 booleans_tokens) (drop 5 booleans_tokens) due_quads booleans_quads
    (drop 5 booleans_tokens, booleans_quads, booleans_is, refl) booleans_is
