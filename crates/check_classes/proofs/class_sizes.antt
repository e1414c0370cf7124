pub mod SizeLaws
pub mod RuleLaws
