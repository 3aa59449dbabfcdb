use Rattle.rdf_stream.proofs.Prelude.{◌≡◌, ℕ, List, ◌++◌, ◌∙◌, Option, None, Some, append-nil, ap, rules, subst, sym, take, Appends, Keeps, Written}
use Rattle.rdf_stream.proofs.devices.OutDrain.put_some.Goals as goal

-- where none of the bytes were written, known bytes stay as they were
none_written : (old new : Option (List ℕ)) (count : ℕ) (bytes : List ℕ) → Appends old new (take count bytes) → count ≡ 0 → Keeps old new
none_written None new count bytes p e = tt
none_written (Some old) None count bytes p e = absurd p
none_written (Some old) (Some new) count bytes p e = p ∙ (ap (λ n. old ++ take n bytes) e ∙ append-nil old)

pub returns-in-Ok-clause-bytes : goal.returns-in-Ok-clause-bytes
returns-in-Ok-clause-bytes g c =
    let written = g.W.Write.contents c.write.new.self in
    let kept = none_written _ written c.in-Ok.count c.args.bytes.now c.in-Ok.ensures.bytes (search rules) in
    subst (Keeps c.args.self.now.contents) (sym (ap (λ (s : Written). s.contents) c.fail.ensures))
    (subst (λ (s : Written). Keeps s.contents written) c.self.view_is kept)
