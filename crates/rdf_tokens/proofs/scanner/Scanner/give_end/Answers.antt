use Rattle.rdf_tokens.proofs.Prelude.{[], refl, ap, true, ◌∙◌, chars-nil, End, Token, Unread}
use Rattle.rdf_tokens.proofs.scanner.Scanner.give_end.Goals as goal

pub returns : goal.returns
returns g c = (
  (
    refl,
    (λ _. tt),
    (
      record {
        token = let F : Unread → Token = λ v. record { kind = End; text = []; at = v.place } in
            ap (λ w. record { kind = End; text = w; at = record { offset = c.self.inside.offset; line = c.self.inside.line } }) chars-nil ∙ ap F c.self.view_is;
        stopped = let F : Unread → Unread = λ v. record v { stopped = true } in ap F c.self.view_is;
      },
      tt,
    ),
  ),
  tt,
)
