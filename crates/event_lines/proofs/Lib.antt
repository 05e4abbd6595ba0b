mod LinesLemmas
mod OneLineLemmas
mod OneLineTexts
mod OneLineEvents
