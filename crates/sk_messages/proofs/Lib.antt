pub mod MailLemmas
pub mod SlotLemmas
