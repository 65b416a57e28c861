-- What passes is a document; what the test answers.
pub mod Accepting
pub mod Answers
