mod OneLog
mod Forms
