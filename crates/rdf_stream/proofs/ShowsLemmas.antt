-- The lines of tokens: what `show` writes is what a conversion with these lines writes.
use Rattle.rdf_stream.proofs.Prelude.{◌≡◌, ℕ, Bool, List, [], ◌∷◌, Option, IfSome, refl, subst, Consumes-whole, AllByRecursion, Dialect, Token, Driven, HasRead, Summary, Style, Starts, Accepts, IsPrompt, StopsFor, JobRead, ConversionOf, Output, conversion, ReadsAll, ShowsAll, dialect_of, showing_of, ShowEnds, of_tokens, token_words, StreamFault, LineOut}
use Rattle.rdf_lines.specs.declared.form.Style.TheVariants.{Kept}
use Rattle.rdf_stream.specs.Devices.{Reading}
use Rattle.rdf_stream.proofs.ConvertsLemmas.{AreFresh, asked, begun_fresh}
use Rattle.rdf_stream.proofs.LineOutLemmas.{IsWriter}
use Rattle.rdf_stream.proofs.TokenWordsLemmas.{lawful}

-- tokens are written as a writer promises it
pub token_writer : IsWriter of_tokens
token_writer = record { none = λ o. refl; more = λ o t ts. refl; told = λ f ts able. tt }

-- each token can be written
all_able : (s : Style) (ts : List Token) → AllByRecursion (of_tokens.can s) ts
all_able s [] = tt
all_able s (t ∷ ts) = (tt, all_able s ts)

-- a reader of tokens that has read nothing
pub starts_tokens : (d : Dialect) (reader : Driven ℕ) (style : Style) → HasRead (token_words d) reader tt [] [] →
    Starts of_tokens (token_words d) tt reader style
starts_tokens d reader style read = record { convertible = record { lawful = lawful d; can_write = λ ts is due. all_able style is }; read = read }

-- what holds of a run over tokens of this dialect with this limit holds of the job that asks for them
pub shows_job : (P : ConversionOf Token → Type 0) (job : JobRead) (d : Dialect) → d ≡ dialect_of job.form → (n : ℕ) → n ≡ job.limits.token →
    (o : Output) → P (conversion of_tokens (token_words d) tt n o) → P (showing_of job)
shows_job P job d e n l o h =
    subst (λ m. P (conversion of_tokens (token_words (dialect_of job.form)) tt m o)) l (subst (λ y. P (conversion of_tokens (token_words y) tt n o)) e h)

-- so why such a run stopped is why showing did, and what it has let wait, what showing has
pub shows_stops : (job : JobRead) (d : Dialect) → d ≡ dialect_of job.form → (n : ℕ) → n ≡ job.limits.token → (o : Output) (reported : StreamFault)
    (known : Option (List ℕ)) (left : Reading) (old new : Option (List ℕ)) (write_failed : Bool) →
    StopsFor reported (conversion of_tokens (token_words d) tt n o) known left old new write_failed →
    StopsFor reported (showing_of job) known left old new write_failed
shows_stops job d e n l o reported known left old new write_failed h = shows_job (λ j. StopsFor reported j known left old new write_failed) job d e n l o h

pub shows_prompt : (job : JobRead) (d : Dialect) → d ≡ dialect_of job.form → (n : ℕ) → n ≡ job.limits.token → (o : Output)
    (known : Option (List ℕ)) (left : Reading) (old new : Option (List ℕ)) →
    IsPrompt (conversion of_tokens (token_words d) tt n o) known left old new → IsPrompt (showing_of job) known left old new
shows_prompt job d e n l o known left old new h = shows_job (λ j. IsPrompt j known left old new) job d e n l o h

-- all tokens were shown, and no quads are counted
pub shown : {D : Type 0} (A : Type 0) (contents : D → Option (List ℕ)) (failed flushed : D → Bool) (d : Dialect) (form : Output)
    (first now : Driven ℕ × LineOut D A) (old new : D) → AreFresh failed form first.1 old → now.1.drain.now ≡ new →
    Starts of_tokens (token_words d) tt first.0 form.form.style → (known : Option (List ℕ)) (left : Reading) (s : Summary) →
    ReadsAll (λ s first bytes now. ShowEnds contents failed flushed d s first.0 first.1 bytes now.1) known left s first now →
    (job : JobRead) → d ≡ dialect_of job.form → first.0.scanner.limit ≡ job.limits.token → ShowsAll job known (contents old) (contents new) s
shown A contents failed flushed d form first now old new fresh is starts known left s h job e l =
    shows_job (λ j. IfSome known (λ bytes. (s.quads ≡ 0) × (n : ℕ) × Accepts j bytes (contents old) (contents new) (record s { quads = n })))
    job d e first.0.scanner.limit l form (
    let w = token_words d in
    let (none, n, ends) = h.is_end in
    Consumes-whole known left.remaining h.bytes (λ bytes. (s.quads ≡ 0) × (n : ℕ) × Accepts (conversion of_tokens w tt first.0.scanner.limit form) bytes
    (contents old) (contents new) (record s { quads = n })) h.consumed h.at_end (
      none,
      n,
      asked A of_tokens token_writer contents failed flushed w Kept tt form first now old new fresh is starts known left
          (λ f o k. Accepts (conversion of_tokens w tt first.0.scanner.limit f) h.bytes (contents o) (contents k) (record s { quads = n }))
          (ends.accepts tt (begun_fresh A of_tokens token_writer contents failed flushed w Kept tt form first old fresh starts)),
    ))
