-- What the steps of a run are told, and what they find.
use Rattle.std.specs.Prelude.{◌≡◌, ℕ, List, Option, option_map}
use Rattle.rdf_stream.specs.Devices.{Reading}
use Rattle.rdf_stream.specs.Jobs.{JobRead}
use Rattle.rdf_command.specs.declared.asides.Skipping.{Skipping}
use Rattle.rdf_command.specs.declared.several.Plan.{Plan}
use Rattle.rdf_command.specs.declared.task.Task.{Task}
use Rattle.rdf_command.specs.declared.task.WordsFault.{WordsFault}
use Rattle.rdf_command.specs.declared.task.WordsFault.TheVariants.{BadBase, BadGraph}
use Rattle.rdf_command.specs.Asides.{Told}
use Rattle.rdf_command.specs.Runs.{StartsWith, job_of}
use Rattle.rdf_command.specs.Several.{Shared}

-- what is told of a run that puts bad lines aside
abbrev pub told_by : Skipping → Told
told_by how = record { action = how.action; explain = how.explain; document = how.document.now; output = how.output.now; bad = how.bad.now }

-- what all files of a run share
abbrev pub shared_of : Plan → Shared
shared_of p = record { base = option_map (λ b. b.now) p.base; folder = option_map (λ b. b.now) p.folder; limits = p.limits; explain = p.explain; prefixes = option_map (λ b. b.now) p.prefixes }

-- the fault is a text that is no IRI
abbrev pub IsOfIri : WordsFault → Type 0
IsOfIri BadBase = Unit
IsOfIri BadGraph = Unit
IsOfIri fault = ⊥

-- This is the job that the task asks for, with the bindings that its document starts with.
abbrev pub IsJobOf : Task → Option (Option (List ℕ)) → Option Reading → JobRead → Type 0
IsJobOf t prefixes left job = (bindings : List (List ℕ × List ℕ)) × StartsWith t.limits prefixes left bindings × (job ≡ job_of t bindings)
