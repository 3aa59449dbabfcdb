-- What a parse reads of the commands and arguments of which the command line is built.
use Rattle.std.specs.Prelude.{◌≡◌, false}
use Rattle.clap.specs.Words.{App, Rule, rule_of}
use Rattle.clap.specs.Simple.{app_of}
use Rattle.clap.specs.declared.builder.arg.Arg.{Arg}
use Rattle.clap.specs.declared.builder.command.Command.{Command}
use Rattle.clap.specs.declared.builder.command.Command.TheViews.{out-Command}

-- the command has no global argument, and a parse reads this of it
abbrev pub ReadsAs : Command → App → Type 0
ReadsAs c a = ((out-Command c).has_globals ≡ false) × (app_of c ≡ a)

-- the argument is not global, and a parse reads this of it
abbrev pub HasRule : Arg → Rule → Type 0
HasRule x r = (x.global ≡ false) × (rule_of x ≡ r)
