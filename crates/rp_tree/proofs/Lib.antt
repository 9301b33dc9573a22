pub mod ExpressionEquations
pub mod MapLaws
pub mod MarkLaws
pub mod StatementEquations
