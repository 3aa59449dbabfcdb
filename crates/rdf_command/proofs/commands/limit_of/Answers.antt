-- A limit is there and in its range, since the parse found no fault.
use Rattle.rdf_command.proofs.Prelude.{◌∙◌, ap, sym, subst, Some, option_map, OkIff-at_ok, OkIff-decides, IsUnsignedIn, found_of, number_in}
use Rattle.rdf_command.proofs.GivenLemmas.{text_given, text_is}
use Rattle.rdf_command.proofs.commands.limit_of.Goals as goal

pub unwrap-requires : goal.unwrap-requires
unwrap-requires c = text_given (found_of c.args.found.now) c.args.id.now c.requires.2.0 c.get_str.result c.get_str.ensures c.requires.2.1

pub unwrap-requires-2 : goal.unwrap-requires-2
unwrap-requires-2 c =
    let is = text_is (found_of c.args.found.now) c.args.id.now c.requires.2.0 c.get_str.result c.get_str.ensures c.requires.2.1
    c.unwrap.result c.unwrap.ensures in
    let number = subst (IsUnsignedIn c.requires.0 c.requires.1) (sym is) c.requires.2.2 in
    (OkIff-decides c.parse.result _ _ c.parse.ensures.value.0).1 (number.0, number.1)

pub returns : goal.returns
returns c =
    let is = text_is (found_of c.args.found.now) c.args.id.now c.requires.2.0 c.get_str.result c.get_str.ensures c.requires.2.1
    c.unwrap.result c.unwrap.ensures in
    let value = (OkIff-at_ok c.parse.result _ _ c.unwrap-2.result c.parse.ensures.value.0 c.unwrap-2.ensures).1 in
    ap (option_map number_in) c.requires.2.1 ∙ ap (λ t. Some (number_in t)) (sym is) ∙ ap (λ n. Some n) (sym value)
