pub mod ExactClasses
pub mod WhatParsingAnswers
