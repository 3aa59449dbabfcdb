-- What begins a document is completed to one by a few fixed tokens.
use Rattle.rdf_trig.proofs.Prelude.{◌≡◌, Bool, true, false, List, [], ◌∷◌, ◌++◌, Some, refl, sym, All, Viable, Token, InForce, DocForm, Document, in_default, document_events, event_quads, Top, InBlock, Listed, InCollection, Around, Statement, InPropertyList, Up, At, Dotted, Sparql, Start, Over, WantPrefix, WantPrefixIri, WantBaseIri, WantDot, AfterLabel, GraphWord, GraphBracket, WantBrace, Inside, Want, After, AfterText, WantType, PropertyListStart, CollectionStart, WantVerb, AfterSemicolon, AfterPropertyList, start, documents, trees, IsClosing, CompletedBy}
use Rattle.std.proofs.lemmas.List.Elements.{All-nil, All-cons}
use Rattle.rdf_trig.specs.Events.{tokens}
use Rattle.rdf_trig.specs.Machine.{Level, Place, Subject, Spelling, Mode}
use Rattle.rdf_trig.proofs.machine.Soundness.{read_found}
use Rattle.rdf_trig.proofs.machine.ClosingTokens.{AllAdmitted, the_end, close_level, close_verb, close_place, close_list, close_brackets, close_around, close_directive, close_block, close, closes}
use Rattle.rdf_trig.proofs.machine.ViableTokens.{Stand, reach, front, passing_bound, viable_reached, shaped_reached}

-- each token is one of those of which completions are made
abbrev Closing : List Token → Type 0
Closing [] = Unit {0}
Closing (t ∷ ts) = IsClosing t × Closing ts

-- tokens that are all of that kind are so as a property of the list
all_closing : (ts : List Token) → Closing ts → All IsClosing ts
all_closing [] c = All-nil IsClosing
all_closing (t ∷ ts) c = All-cons IsClosing t ts c.0 (all_closing ts c.1)

-- the end of the input is one of them
ended : Closing (the_end ∷ [])
ended = (refl, tt)

-- the tokens that leave a block and end the document are of that kind
level_closing : (v : Level) → Closing (close_level v)
level_closing Top = (refl, ended)
level_closing InBlock = (refl, ended)

-- a verb with its object and what ends the statement are of that kind
verb_closing : (v : Level) → Closing (close_verb v)
verb_closing v = (refl, (refl, level_closing v))

mutual
  place_closing : (p : Place) → Closing (close_place p)
  place_closing (Listed s p (Statement v)) = level_closing v
  place_closing (Listed s p (InPropertyList u)) = (refl, brackets_closing u)
  place_closing (InCollection f n u) = (refl, list_closing u)

  list_closing : (u : Up) → Closing (close_list u)
  list_closing (Subject v) = verb_closing v
  list_closing (At p) = place_closing p

  brackets_closing : (u : Up) → Closing (close_brackets u)
  brackets_closing (Subject v) = level_closing v
  brackets_closing (At p) = place_closing p

-- the brackets that are closed are of that kind
around_closing : (a : Around) → Closing (close_around a)
around_closing (Statement v) = level_closing v
around_closing (InPropertyList u) = (refl, brackets_closing u)

-- the tokens that complete a directive are of that kind
directive_closing : (w : Spelling) → Closing (close_directive w)
directive_closing Dotted = (refl, ended)
directive_closing Sparql = ended

-- the tokens of an empty block are of that kind
block_closing : Closing close_block
block_closing = (refl, (refl, ended))

-- so the completion of every mode consists of them
closing : (m : Mode) → Closing (close m)
closing Start = ended
closing Over = tt
closing (WantPrefix w) = (refl, (refl, directive_closing w))
closing (WantPrefixIri w p) = (refl, directive_closing w)
closing (WantBaseIri w) = (refl, directive_closing w)
closing WantDot = (refl, ended)
closing (AfterLabel g) = verb_closing Top
closing GraphWord = (refl, block_closing)
closing (GraphBracket n) = (refl, block_closing)
closing (WantBrace g) = block_closing
closing Inside = (refl, ended)
closing (Want p) = (refl, place_closing p)
closing (After p) = place_closing p
closing (AfterText w p) = place_closing p
closing (WantType w p) = (refl, place_closing p)
closing (PropertyListStart n u) = (refl, list_closing u)
closing (CollectionStart u) = (refl, list_closing u)
closing (WantVerb s a) = (refl, (refl, around_closing a))
closing (AfterSemicolon s a) = around_closing a
closing (AfterPropertyList s v) = level_closing v

-- the whole document or tree
record Whole (strict : Bool) (form : DocForm) (start : InForce) (ts : List Token) : Type 0 where
  tree : Document form
  told : tokens (document_events start tree) ≡ ts
  passing : AllAdmitted strict (document_events start tree)

-- with the completion of the mode that was reached, the tokens are a document or a tree
whole : (strict : Bool) (form : DocForm) (start : InForce) (ts : List Token) (s : Stand) → reach strict form (in_default start) Start ts ≡ Some s →
    Whole strict form start (ts ++ close s.mode)
whole strict form start ts s e =
    let a = front strict form ts (close s.mode) (in_default start) Start s (closes strict form s.mode s.setting) e in
    let f = read_found form (ts ++ close s.mode) (in_default start) a.events a.runs in
    record { tree = f.0; told = f.2; passing = rw f.1 at a.bound }

-- the law of completed beginnings, for documents and for trees
pub completed : (form : DocForm) (start : InForce) (ts : List Token) →
    (Viable (documents form start) ts → CompletedBy (documents form start) ts) × (Viable (trees form start) ts → CompletedBy (trees form start) ts)
completed form start ts = (by_document, by_tree)
  where
    by_document : Viable (documents form start) ts → CompletedBy (documents form start) ts
    by_document v =
        let s = viable_reached form start ts v in
        let w = whole true form start ts s.0 s.1 in (
          close (Stand.mode s.0),
          event_quads 0 (document_events start w.tree),
          all_closing (close (Stand.mode s.0)) (closing (Stand.mode s.0)),
          (w.tree, sym w.told, passing_bound (document_events start w.tree) w.passing, refl),
        )

    by_tree : Viable (trees form start) ts → CompletedBy (trees form start) ts
    by_tree v =
        let s = shaped_reached form start ts v in
        let w = whole false form start ts s.0 s.1 in (
          close (Stand.mode s.0),
          event_quads 0 (document_events start w.tree),
          all_closing (close (Stand.mode s.0)) (closing (Stand.mode s.0)),
          (w.tree, sym w.told, refl),
        )
