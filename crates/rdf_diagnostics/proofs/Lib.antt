mod Prelude
mod ExcerptsLemmas
mod SignsLemmas
mod CausesLemmas
mod EscapeWalksLemmas
mod BadEscapesLemmas
mod SightLemmas
mod SightPlaces
