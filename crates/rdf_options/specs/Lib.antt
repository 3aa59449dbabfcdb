-- what has to be believed
pub mod Options
-- what need not be: what the code's side speaks of
pub mod Building
