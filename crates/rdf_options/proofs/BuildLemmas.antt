-- A command that is built step by step reads as its definition.
use Rattle.std.proofs.Common.{◌≡◌, ◌∙◌, ◌||◌, ap, ap₂, subst, List, [], ◌∷◌, fold}
use Rattle.clap.specs.Words.{AddsArg, AddsInTurn, AddsSubcommand, App, Rule, app_of, with_rule, with_subcommand}
use Rattle.clap.specs.declared.builder.arg.Arg.{Arg}
use Rattle.clap.specs.declared.builder.command.Command.{Command}
use Rattle.rdf_options.specs.Building.{HasRule, ReadsAs}

-- an argument that is added reads as its rule
pub with_argument : (old new : Command) (x : Arg) (a : App) (r : Rule) → AddsArg old x new → ReadsAs old a → HasRule x r → ReadsAs new (with_rule a r)
with_argument old new x a r added reads is = (added.globals ∙ ap₂ ◌||◌ reads.0 is.0, added.shape is.0 ∙ ap₂ with_rule reads.1 is.1)

-- each of the arguments has the rule at its place
abbrev pub HaveRules : List Arg → List Rule → Type 0
HaveRules [] [] = Unit
HaveRules (x ∷ xs) (r ∷ rs) = HasRule x r × HaveRules xs rs
HaveRules _ _ = ⊥

-- arguments that are added in turn read as their rules
pub with_arguments : (old new : Command) (xs : List Arg) (rs : List Rule) (a : App) → AddsInTurn AddsArg old xs new → ReadsAs old a →
    HaveRules xs rs → ReadsAs new (fold with_rule a rs)
with_arguments old new [] [] a added reads have = subst (λ c. ReadsAs c a) added reads
with_arguments old new (x ∷ xs) (r ∷ rs) a added reads have =
    with_arguments added.0 new xs rs (with_rule a r) added.2 (with_argument old added.0 x a r added.1 reads have.0) have.1
with_arguments old new [] (r ∷ rs) a added reads have = absurd have
with_arguments old new (x ∷ xs) [] a added reads have = absurd have

-- a subcommand that is added reads as its definition
pub with_action : (old sub new : Command) (a b : App) → AddsSubcommand old sub new → app_of old ≡ a → ReadsAs sub b → app_of new ≡ with_subcommand a b.top
with_action old sub new a b added reads is = added.shape is.0 ∙ ap₂ with_subcommand reads (ap (λ (x : App). x.top) is.1)
