mod OneKind
mod Passing
mod ProgramLemmas
mod Answering
mod Reading
