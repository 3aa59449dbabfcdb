use Rattle.rdf_stream.proofs.Prelude.{◌≡◌, ℕ, List, length, ◌++◌, ◌∙◌, ap, append_assoc, rules, sym, on_ok_weaker, decimal, chars}
use Rattle.rdf_stream.proofs.PutLemmas.{then_put}
use Rattle.rdf_stream.proofs.token_line.put_parts.Goals as goal

-- some bytes were put, and then a number and what stands after it
number_put : (old mid new bytes after : List ℕ) (n count : ℕ) → mid ≡ old ++ bytes → new ≡ mid ++ (decimal n ++ after) → n ≡ count →
    new ≡ old ++ (bytes ++ decimal count ++ after)
number_put old mid new bytes after n count p q same =
    then_put old mid new bytes (decimal count ++ after) p (q ∙ ap (λ k. mid ++ (decimal k ++ after)) same)
    ∙ ap (λ l. old ++ l) (sym (append_assoc bytes (decimal count) after))

pub returns-clause-written : goal.returns-clause-written
returns-clause-written g c =
    let old = c.args.out.now in
    let count = number_put old _ _ _ _ _ (length (chars c.args.token.text.now)) c.in_ok-put_number.ensures.written
    c.in_ok-put_number-2.ensures.written (search rules) in
    let kind = then_put old _ _ _ _ count (c.in_ok-append.ensures.appended
    ∙ ap (λ l. c.put_number-2.new.out ++ l) (c.as_bytes.ensures.value ∙ c.kind_name.ensures)) in
    on_ok_weaker c.append-2.result (λ e. then_put old _ _ _ _ kind e) c.append-2.ensures.appended
