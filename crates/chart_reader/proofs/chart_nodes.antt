pub mod KeyLaws
pub mod StepLaws
pub mod Members
pub mod Linking
pub mod Onward
pub mod GraphKeys
pub mod CircleLaws
