-- The line that reports a fault, as the program prints it.
use Rattle.std.specs.Prelude.{ℕ, List, ◌++◌, codes, decimal}
use Rattle.rdf_terms.specs.declared.reason.Reason.{Reason}
use Rattle.rdf_terms.specs.declared.reason.Reason.TheVariants as reason
use Rattle.rdf_tokens.specs.declared.token.Fault.{Fault}
use Rattle.rdf_stream.specs.declared.fault.StreamFault.{StreamFault}
use Rattle.rdf_stream.specs.declared.fault.StreamFault.TheVariants.{Refused, Read, Write, Memory}

-- the words for each reason in a message
abbrev pub reason_text : Reason → List ℕ
reason_text reason.BadUtf8 = codes "bad UTF-8"
reason_text reason.NoToken = codes "no token"
reason_text reason.BadEscape = codes "bad escape"
reason_text reason.TokenTooLong = codes "token too long"
reason_text reason.DocumentTooLong = codes "document too long"
reason_text reason.Memory = codes "out of memory"
reason_text reason.Ended = codes "ended"
reason_text reason.Unexpected = codes "unexpected token"
reason_text reason.RelativeIri = codes "relative IRI"
reason_text reason.IriTooLong = codes "IRI too long"
reason_text reason.Sink = codes "write failed"
reason_text reason.Unbound = codes "unbound prefix"
reason_text reason.NoBase = codes "no base"
reason_text reason.TooDeep = codes "too deep"
reason_text reason.TooManyBindings = codes "too many bindings"

-- why, and where in decimal digits
abbrev pub place_text : Fault → List ℕ
place_text f = reason_text f.reason ++ codes " at byte " ++ decimal f.offset ++ codes ", line " ++ decimal f.line

-- a refusal is reported with its place, and any other fault by its words alone
abbrev pub fault_text : StreamFault → List ℕ
fault_text (Refused f) = place_text f
fault_text Read = codes "read failed"
fault_text Write = codes "write failed"
fault_text Memory = codes "out of memory"

-- the line, with its LF
abbrev pub report_text : StreamFault → List ℕ
report_text f = codes "rdfconv: " ++ fault_text f ++ codes "\n"
