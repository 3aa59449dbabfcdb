-- Each row is the word that was asked for.
use Rattle.rdf_stream.proofs.Prelude.{◌∙◌, ◌∷◌, ap₂, refl, said}
use Rattle.rdf_stream.proofs.explains.words_for.Goals as goal

pub returns : goal.returns
returns c =
    ap₂ ◌∷◌ (c.said.ensures ∙ ap₂ said c.contains.ensures c.word_of.ensures)
    (ap₂ ◌∷◌ (c.said-2.ensures ∙ ap₂ said c.contains-2.ensures c.word_of-2.ensures)
    (ap₂ ◌∷◌ (c.said-3.ensures ∙ ap₂ said c.has_string.ensures c.word_of-3.ensures)
    (ap₂ ◌∷◌ (c.said-4.ensures ∙ ap₂ said c.contains-3.ensures c.word_of-4.ensures)
    (ap₂ ◌∷◌ (c.said-5.ensures ∙ ap₂ said c.contains-4.ensures c.word_of-5.ensures)
    (ap₂ ◌∷◌ (c.said-6.ensures ∙ ap₂ said c.contains-5.ensures c.word_of-6.ensures)
    (ap₂ ◌∷◌ (c.said-7.ensures ∙ ap₂ said c.contains-6.ensures c.word_of-7.ensures)
    (ap₂ ◌∷◌ (c.said-8.ensures ∙ ap₂ said c.has_number.ensures c.word_of-8.ensures)
    (ap₂ ◌∷◌ (c.said-9.ensures ∙ ap₂ said c.contains-7.ensures c.word_of-9.ensures)
    (ap₂ ◌∷◌ (c.said-10.ensures ∙ ap₂ said c.contains-8.ensures c.word_of-10.ensures)
    (ap₂ ◌∷◌ (c.said-11.ensures ∙ ap₂ said c.contains-9.ensures c.word_of-11.ensures)
    (ap₂ ◌∷◌ (c.said-12.ensures ∙ ap₂ said c.has_first_alone.ensures c.word_of-12.ensures)
    (ap₂ ◌∷◌ (c.said-13.ensures ∙ ap₂ said c.has_first_alone-2.ensures c.word_of-13.ensures)
    (ap₂ ◌∷◌ (c.said-14.ensures ∙ ap₂ said c.contains-10.ensures c.word_of-14.ensures)
    (ap₂ ◌∷◌ (c.said-15.ensures ∙ ap₂ said c.contains-11.ensures c.word_of-15.ensures)
    (ap₂ ◌∷◌ (c.said-16.ensures ∙ ap₂ said c.contains-12.ensures c.word_of-16.ensures)
    (ap₂ ◌∷◌ (c.said-17.ensures ∙ ap₂ said c.has_first_alone-3.ensures c.word_of-17.ensures)
    (ap₂ ◌∷◌ (c.said-18.ensures ∙ ap₂ said c.contains-13.ensures c.word_of-18.ensures)
    (ap₂ ◌∷◌ (c.said-19.ensures ∙ ap₂ said c.contains-14.ensures c.word_of-19.ensures)
    (ap₂ ◌∷◌ (c.said-20.ensures ∙ ap₂ said c.contains-15.ensures c.word_of-20.ensures)
    (ap₂ ◌∷◌ (c.said-21.ensures ∙ ap₂ said c.contains-16.ensures c.word_of-21.ensures)
    (ap₂ ◌∷◌ (c.said-22.ensures ∙ ap₂ said c.contains-17.ensures c.word_of-22.ensures)
    (ap₂ ◌∷◌ (c.said-23.ensures ∙ ap₂ said c.contains-18.ensures c.word_of-23.ensures)
    (ap₂ ◌∷◌ (c.said-24.ensures ∙ ap₂ said c.contains-19.ensures c.word_of-24.ensures)
    (ap₂ ◌∷◌ (c.said-25.ensures ∙ ap₂ said c.contains-20.ensures c.word_of-25.ensures)
    (ap₂ ◌∷◌ (c.said-26.ensures ∙ ap₂ said c.contains-21.ensures c.word_of-26.ensures)
    (ap₂ ◌∷◌ (c.said-27.ensures ∙ ap₂ said c.contains-22.ensures c.word_of-27.ensures)
    (refl)))))))))))))))))))))))))))
