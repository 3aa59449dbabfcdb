use Rattle.rdf_command.proofs.commands.form_in.Goals as goal

pub returns-in_ok-from_str-in-None-clause-refused : goal.returns-in_ok-from_str-in-None-clause-refused
returns-in_ok-from_str-in-None-clause-refused c = (c.in_ok-from_str-in-None.ensures.ok, c.form_by.ensures.none c.in-None.is)
