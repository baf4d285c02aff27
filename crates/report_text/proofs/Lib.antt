mod Decoding
pub mod NoFloat
mod NoteBack
mod NoteLines
mod OneText
mod ReplyBack
pub mod ReportBack
mod ScriptBack
mod ValueTexts
mod WholeText
