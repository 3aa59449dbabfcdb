-- The code's table of spellings, as its contracts see it.
use Rattle.rdf_tokens.specs.declared.states.fixed.Spelling.{Spelling}
use Rattle.rdf_tokens.specs.Fixed.{Row}

-- a row of the code's table, its spelling as bytes: all are ASCII, so these are its characters
abbrev pub row_of : Spelling → Row
row_of s = record { kind = s.kind; any_case = s.any_case; text = s.text.now }
