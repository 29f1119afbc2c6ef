pub mod DictFields
pub mod FieldParts
pub mod ScriptFields
pub mod SetFields
