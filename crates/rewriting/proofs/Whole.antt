-- What a whole call answers.
pub mod AcceptedUnits
pub mod Answering
pub mod CollectTurns
pub mod UnitAnswers
