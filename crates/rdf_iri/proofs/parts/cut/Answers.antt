-- Where the byte is found the text is cut there, and otherwise all of it stands before the cut.
use Rattle.rdf_iri.proofs.Prelude.{◌∙◌, ap, sym, Some, split_parts, before, after}
use Rattle.rdf_iri.proofs.TextsLemmas.{cut_suffix}
use Rattle.rdf_iri.proofs.CutPlaces.{Lacks-from_places, cut_none}
use Rattle.rdf_iri.proofs.parts.cut.Goals as goal

pub returns-in-Some-clause-front : goal.returns-in-Some-clause-front
returns-in-Some-clause-front c =
    let p = rw c.in-Some.is at (split_parts c.args.mark c.args.text.now c.split_once.result c.split_once.ensures.cases c.requires) in
    let r = cut_suffix c.args.mark c.in-Some.front.now (Some c.in-Some.rest.now) (Lacks-from_places c.args.mark c.in-Some.front.now p.1) in
    sym (ap (before c.args.mark) p.0 ∙ r.0)

pub returns-in-Some-clause-rest : goal.returns-in-Some-clause-rest
returns-in-Some-clause-rest c =
    let p = rw c.in-Some.is at (split_parts c.args.mark c.args.text.now c.split_once.result c.split_once.ensures.cases c.requires) in
    let r = cut_suffix c.args.mark c.in-Some.front.now (Some c.in-Some.rest.now) (Lacks-from_places c.args.mark c.in-Some.front.now p.1) in
    sym (ap (after c.args.mark) p.0 ∙ r.1)

pub returns-in-None-clause-front : goal.returns-in-None-clause-front
returns-in-None-clause-front c =
    let p = rw c.in-None.is at (split_parts c.args.mark c.args.text.now c.split_once.result c.split_once.ensures.cases c.requires) in
    sym (cut_none c.args.mark c.args.text.now (Lacks-from_places c.args.mark c.args.text.now p)).0

pub returns-in-None-clause-rest : goal.returns-in-None-clause-rest
returns-in-None-clause-rest c =
    let p = rw c.in-None.is at (split_parts c.args.mark c.args.text.now c.split_once.result c.split_once.ensures.cases c.requires) in
    sym (cut_none c.args.mark c.args.text.now (Lacks-from_places c.args.mark c.args.text.now p)).1
