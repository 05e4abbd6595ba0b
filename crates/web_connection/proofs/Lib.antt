mod AccessLemmas
mod StatusLemmas
mod AskingLemmas
mod DenialLemmas
mod PageLemmas
mod StepLemmas
mod PeerLemmas
mod SentLemmas
